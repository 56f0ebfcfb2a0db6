use Rattle.std.proofs.Common.{◌≡◌, ◌-◌}
use Rattle.sc_world.specs.Occurrences.{occur}
use Rattle.sc_gather.specs.Seen.{call}
use Rattle.layout_base.specs.Seen.{ground_of, layout_of}
use Rattle.places.proofs.calls.occur.Given as goal

abbrev pub invariant-loop-turn : goal.invariant-loop-turn
invariant-loop-turn l =
    occur (l.site.turns - l._turn) (ground_of l.ground) l.k (call l.site) (layout_of l.laid)
    ≡ occur l.fn.site.turns (ground_of l.fn.ground) l.fn.k (call l.fn.site) (layout_of l.fn.laid)
