use Rattle.std.proofs.Common.{◌≡◌, map, length, subst, ap, ◌∙◌}
use Rattle.gl_sets.specs.Guards.{targets_of}
use Rattle.gl_sets.specs.Sets.{IsMoved}
use Rattle.layout_base.specs.Seen as laid
use Rattle.gate_places.proofs.Membering.{targets_wide}
use Rattle.gate_paths.specs.Targets.{gone}
use Rattle.gate_paths.proofs.Moving.{goes}
use Rattle.gate_paths.proofs.moves.go.Goals as goal

pub moved-requires-clause-wide : goal.moved-requires-clause-wide
moved-requires-clause-wide c =
    ap length c.as_slice-2.ensures.value
    ∙ targets_wide (λ t. gone (laid.layout_of c.args.layout.now.places.now) c.args.by t) c.args.from.now.pairs.items c.in_ok-ways.ways.items
    (subst (λ ps. map (λ t. gone (laid.layout_of c.args.layout.now.places.now) c.args.by t) (targets_of ps) ≡ c.in_ok-ways.ways.items)
    c.as_slice.ensures c.in_ok-ways.ensures)

pub returns-clause-ok : goal.returns-clause-ok
returns-clause-ok c =
    goes _ (laid.layout_of c.args.layout.now.places.now) c.args.by c.args.from.now.pairs.items _ c.in_ok-ways.ways.items
    (subst (λ ps. map (λ t. gone (laid.layout_of c.args.layout.now.places.now) c.args.by t) (targets_of ps) ≡ c.in_ok-ways.ways.items)
    c.as_slice.ensures c.in_ok-ways.ensures)
    (subst (λ ts. IsMoved c.moved.new.net c.args.from.now.pairs.items ts c.in_ok-made.made.pairs.items) c.as_slice-2.ensures.value c.in_ok-made.ensures.ok)
