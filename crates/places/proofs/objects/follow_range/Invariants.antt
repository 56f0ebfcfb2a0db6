use Rattle.std.proofs.Common.{◌≡◌, ◌-◌}
use Rattle.sc_world.specs.Objects.{follow_all}
use Rattle.places.specs.Objects.{behind_of}
use Rattle.layout_base.specs.Seen.{ground_of, layout_of}
use Rattle.places.proofs.objects.follow_range.Given as goal

abbrev pub invariant-loop-at : goal.invariant-loop-at
invariant-loop-at l =
    follow_all (l.to - l.at) l.at (ground_of l.ground) (behind_of l.f) (layout_of l.laid)
    ≡ follow_all (l.fn.to - l.fn.from) l.fn.from (ground_of l.fn.ground) (behind_of l.fn.f) (layout_of l.fn.laid)
