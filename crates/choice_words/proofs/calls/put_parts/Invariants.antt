-- With the parts that are left the things are whole.
use Rattle.std.proofs.Common.{◌≡◌, ◌++◌, ◌+◌, drop}
use Rattle.layout_base.specs.Seen.{layout_of}
use Rattle.choice_words.specs.Things.{part_things}
use Rattle.choice_words.proofs.calls.put_parts.Given as goal

abbrev pub invariant-loop-part : goal.invariant-loop-part
invariant-loop-part l =
    (l.things.items ++ part_things (layout_of l.places) l.call l.n (drop l.part-index l.parts)
    ≡ l.fn.things.items ++ part_things (layout_of l.fn.places) l.fn.call l.fn.spot l.fn.parts)
    × (l.n ≡ l.spot + l.part-index)
