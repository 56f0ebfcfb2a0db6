use Rattle.std.proofs.Common.{◌≡◌, ℕ, ap, ◌∙◌}
use Rattle.sum_rows.specs.declared.path.Path.{Path}
use Rattle.sum_rows.specs.declared.row.Write.{Write}
use Rattle.sc_gather.specs.Seen.{source_of}
use Rattle.sc_world.specs.Verdict.{width_of}
use Rattle.location_texts.specs.Seen.{texts}
use Rattle.fn_rows.proofs.writes.write_of.Goals as goal

write : Path → ℕ → Write
write p w = record { path = p; width = w }

same : (p q : Path) (v w : ℕ) → p ≡ q → v ≡ w → write p v ≡ write q w
same p q v w e f = ap (λ r. write r v) e ∙ ap (write q) f

pub returns : goal.returns
unfolding write
returns c q =
    same _ _ _ _ c.in_ok-path.ensures
    (c.width.ensures (texts c.args.texts.now) q
    ∙ ap (λ l. width_of (source_of c.args.here.now) (texts c.args.texts.now) q l.type) c.location.ensures)
