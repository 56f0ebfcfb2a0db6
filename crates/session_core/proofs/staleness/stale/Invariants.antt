-- The stale ones among the functions passed.
use Rattle.std.proofs.Common.{map}
use Rattle.std.specs.Prelude.{option_map}
use Rattle.std.specs.Arc.{arc_value}
use Rattle.session_core.specs.Stale.{AreStale, memory}
use Rattle.session_core.proofs.staleness.stale.Given as goal

abbrev pub invariant-loop-f : goal.invariant-loop-f
invariant-loop-f l =
    AreStale l.plan.callees (map (λ m. m.words) l.now.items) (map (option_map memory) l.kept.items) (map arc_value l.verdicts.list.items) l.f l.found.items
