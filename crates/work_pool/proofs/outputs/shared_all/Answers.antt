-- The output of one more function.
use Rattle.std.proofs.Common.{◌≡◌, ◌+◌, map, take, get_or, sym, subst, ap, ◌∙◌}
use Rattle.std.proofs.lemmas.List.{take_all}
use Rattle.std.specs.Arc.{arc_value}
use Rattle.work_pool.specs.Outputs.{made_at}
use Rattle.work_pool.proofs.Made.{map_push, value_from}
use Rattle.work_pool.proofs.outputs.shared_all.Goals as goal

pub loop-function-preserved : goal.loop-function-preserved
loop-function-preserved g c defined all =
    let i = c.loop-function.function-index in
    let fs = c.args.functions.now in
    let made = c.args.made.now in
    subst (λ xs. map arc_value xs ≡ map defined (take (i + 1) fs)) (sym c.in_ok-push.ensures.items)
    (map_push arc_value defined c.loop-function.list.items fs c.in_ok-shared.field-0 i 0 c.loop-function-test.true
    (c.loop-function.invariant defined all)
    (value_from arc_value (made_at made (get_or fs i 0)) (arc_value c.in_ok-shared.field-0) (defined (get_or fs i 0)) c.in_ok-shared.ensures
    (all i 0 c.loop-function-test.true)))

pub returns : goal.returns
returns g c defined all =
    c.loop-function.invariant defined all ∙ ap (map defined) (take_all c.loop-function.function-index c.args.functions.now c.loop-function-test.false)
