use Rattle.std.proofs.Common.{◌≡◌, ◌++◌, [], ◌∷◌, map, ap, sym, ◌∙◌, arith}
use Rattle.std.specs.List.{range_with_len}
use Rattle.std.proofs.lemmas.List.FromFn.{map-range_with_len_more}
use Rattle.program_plan.specs.Graphs.{row_with}
use Rattle.program_plan.proofs.rows.rows_with.Goals as goal

pub loop-number-preserved : goal.loop-number-preserved
loop-number-preserved c =
    let one = row_with c.args.program.now c.args.machine.now c.args.tries in
    c.in_ok-push.ensures.ok
    ∙ (ap (λ rs. rs ++ c.in_ok-row.row ∷ []) c.loop-number.invariant
    ∙ (ap (λ r. map one (range_with_len 0 c.loop-number.number) ++ r ∷ []) c.in_ok-row.ensures
    ∙ sym (map-range_with_len_more one 0 c.loop-number.number c.loop-number.number (omega arith))))
