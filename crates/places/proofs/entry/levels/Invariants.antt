use Rattle.std.proofs.Common.{◌≡◌, ◌-◌}
use Rattle.sc_world.specs.Objects.{levels}
use Rattle.layout_base.specs.Seen.{ground_of, layout_of}
use Rattle.places.proofs.entry.levels.Given as goal

abbrev pub invariant-loop-k : goal.invariant-loop-k
invariant-loop-k l =
    levels (l.reach - l._k) l.from l.to (ground_of l.ground) (layout_of l.laid)
    ≡ levels l.fn.reach l.fn.first l.fn.behind (ground_of l.fn.ground) (layout_of l.fn.laid)
