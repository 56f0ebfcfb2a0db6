-- With the items that are left the parts are whole.
use Rattle.std.proofs.Common.{◌≡◌, ◌++◌, drop}
use Rattle.choice_words.specs.Things.{item_parts}
use Rattle.choice_words.proofs.parts.put_items.Given as goal

abbrev pub invariant-loop-x : goal.invariant-loop-x
invariant-loop-x l =
    (l.parts.items ++ item_parts l.sort l.number (drop l.x-index l.items) ≡ l.fn.parts.items ++ item_parts l.fn.sort 0 l.fn.items)
    × (l.number ≡ l.x-index)
