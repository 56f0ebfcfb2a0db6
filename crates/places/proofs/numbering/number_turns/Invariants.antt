use Rattle.std.proofs.Common.{◌≡◌, ◌-◌}
use Rattle.sc_world.specs.Occurrences.{number_turns}
use Rattle.sc_gather.specs.Seen.{call}
use Rattle.layout_base.specs.Seen.{ground_of, layout_of}
use Rattle.places.proofs.numbering.number_turns.Given as goal

abbrev pub invariant-loop-turn : goal.invariant-loop-turn
invariant-loop-turn l =
    number_turns (l.site.turns - l._turn) (ground_of l.ground) l.k (call l.site) (layout_of l.laid)
    ≡ number_turns l.fn.site.turns (ground_of l.fn.ground) l.fn.first (call l.fn.site) (layout_of l.fn.laid)
