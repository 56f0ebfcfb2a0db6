-- What stays so while a net grows.
use Rattle.std.proofs.Common.{ℕ, ◌≤◌, Option, Some, None, List, length, arith}
use Rattle.bit_net.specs.declared.nodes.Node.{Node}
use Rattle.bit_words.specs.declared.Word.{Word}
use Rattle.gate_rows.specs.Given.{IsKindBelow}

pub kind_stays : (old ns : List Node) (k : Option Word) → length old ≤ length ns → IsKindBelow old k → IsKindBelow ns k
kind_stays old ns None longer low = tt
kind_stays old ns (Some w) longer low = omega (arith, low, longer)
