-- The functions so far.
use Rattle.std.proofs.Common.{◌≡◌, map}
use Rattle.std.specs.List.{flat_map, range_with_len}
use Rattle.plan_core.specs.Graph.{kept_callees, cut_edges}
use Rattle.call_graph.proofs.plans.split.Given as goal

abbrev pub invariant-loop-caller : goal.invariant-loop-caller
invariant-loop-caller l =
    (l.callees ≡ map (kept_callees l.rows) (range_with_len 0 l.caller))
    × (l.cut ≡ flat_map (cut_edges l.rows) (range_with_len 0 l.caller))
