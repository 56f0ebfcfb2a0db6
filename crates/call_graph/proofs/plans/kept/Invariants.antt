-- The callees so far.
use Rattle.std.proofs.Common.{◌≡◌, ◌++◌, not, map, filter, take}
use Rattle.plan_core.specs.Graph.{is_cut}
use Rattle.call_graph.specs.Plans.{edge}
use Rattle.call_graph.proofs.plans.kept.Given as goal

abbrev pub invariant-loop-callee : goal.invariant-loop-callee
invariant-loop-callee l =
    (l.kept ≡ filter (λ g. not (is_cut l.rows l.caller g)) (take l.callee-index l.row))
    × (l.cut ≡ l.fn.cut ++ map (edge l.caller) (filter (is_cut l.rows l.caller) (take l.callee-index l.row)))
