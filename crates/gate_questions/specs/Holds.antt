-- What may be asked of gates: whether all of them hold for some choice of the inputs of their net, and for which choice first. A
-- choice comes before another in lexicographic order, false before true.

use Rattle.std.specs.Prelude.{◌≡◌, ℕ, Bool, true, false, List, map, length}
use Rattle.std.specs.List.{list_all, range_with_len}
use Rattle.bit_net.specs.declared.nodes.Gate.{Gate}
use Rattle.bit_net.specs.declared.nodes.Node.{Node}
use Rattle.bit_net.specs.Value.{bit_at, value}
use Rattle.bit_net.specs.Circuit.{input_count}
use Rattle.query.specs.Values.{is_before}

-- whether all these gates hold, where gate g has the value v g
abbrev pub all_hold : (ℕ → Bool) → List Gate → Bool
all_hold v gates = list_all (λ g. v g.at) gates

abbrev pub SomeHolds : List Node → List Gate → Type 0
SomeHolds ns gates = (choice : ℕ → Bool) × (all_hold (value choice ns) gates ≡ true)

abbrev pub NoneHolds : List Node → List Gate → Type 0
NoneHolds ns gates = (choice : ℕ → Bool) → all_hold (value choice ns) gates ≡ false

-- the bits that the choice gives the first n inputs
abbrev pub bits_of : ℕ → (ℕ → Bool) → List Bool
bits_of n choice = map choice (range_with_len 0 n)

-- the gates hold for these bits of all inputs, and for no bits that come before them
pub record IsFirst (ns : List Node) (gates : List Gate) (bits : List Bool) : Type 0 where
  pub size : length bits ≡ input_count ns
  pub holds : all_hold (value (bit_at bits) ns) gates ≡ true
  pub first : (choice : ℕ → Bool) → all_hold (value choice ns) gates ≡ true → is_before bits (bits_of (input_count ns) choice) ≡ true
