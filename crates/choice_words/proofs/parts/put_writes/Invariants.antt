-- With the written cells that are left the parts are whole.
use Rattle.std.proofs.Common.{◌≡◌, ◌++◌, drop}
use Rattle.choice_words.specs.Things.{write_parts}
use Rattle.choice_words.proofs.parts.put_writes.Given as goal

abbrev pub invariant-loop-write : goal.invariant-loop-write
invariant-loop-write l =
    (l.parts.items ++ write_parts l.items l.number (drop l.write-index l.writes)
    ≡ l.fn.parts.items ++ write_parts l.fn.items 0 l.fn.writes)
    × (l.number ≡ l.write-index)
