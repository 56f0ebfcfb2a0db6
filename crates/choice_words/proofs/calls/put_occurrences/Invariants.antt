-- With the calls that are left the things are whole.
use Rattle.std.proofs.Common.{◌≡◌, ◌++◌, drop, map}
use Rattle.layout_base.specs.Seen.{ground_of, layout_of, occurrence_of}
use Rattle.choice_words.specs.Things.{occurrences_things}
use Rattle.choice_words.proofs.calls.put_occurrences.Given as goal

abbrev pub invariant-loop-occurrence : goal.invariant-loop-occurrence
invariant-loop-occurrence l =
    l.things.items
    ++ occurrences_things (ground_of l.ground).source (layout_of l.places) l.call
    (map occurrence_of (drop l.occurrence-index l.occurrences))
    ≡ l.fn.things.items
    ++ occurrences_things (ground_of l.fn.ground).source (layout_of l.fn.places) 0 (map occurrence_of l.fn.occurrences)
