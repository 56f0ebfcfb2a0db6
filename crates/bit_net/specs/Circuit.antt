-- What holds of the nodes of every net: the constants stand first, the inputs behind them in order, and each node reads earlier gates alone.
use Rattle.std.specs.Prelude.{◌≡◌, ℕ, zero, suc, ◌+◌, ◌<◌, Bool, true, false, List, [], ◌∷◌, ◌++◌, Some, slice_get}
use Rattle.std.specs.List.{count_by}
use Rattle.bit_net.specs.declared.nodes.Node.{Node}
use Rattle.bit_net.specs.declared.nodes.Node.TheVariants.{Constant, Input, Not, And, Or, Xor, Mux}

abbrev pub is_input : Node → Bool
is_input (Input k) = true
is_input _ = false

-- the number of inputs of a net
unfoldable pub input_count : List Node → ℕ
input_count ns = count_by is_input ns

-- the nodes of a net with this many inputs before any gate is made
unfoldable pub first_nodes : (inputs : ℕ) → List Node
first_nodes zero = Constant false ∷ Constant true ∷ []
first_nodes (suc k) = first_nodes k ++ Input k ∷ []

-- the node reads only gates below g, or one of the inputs
abbrev pub ReadsBelow : (g inputs : ℕ) → Node → Type 0
ReadsBelow g inputs (Constant b) = Unit {0}
ReadsBelow g inputs (Input k) = k < inputs
ReadsBelow g inputs (Not a) = a.at < g
ReadsBelow g inputs (And a b) = (a.at < g) × (b.at < g)
ReadsBelow g inputs (Or a b) = (a.at < g) × (b.at < g)
ReadsBelow g inputs (Xor a b) = (a.at < g) × (b.at < g)
ReadsBelow g inputs (Mux c a b) = (c.at < g) × (a.at < g) × (b.at < g)

-- the constants are gates 0 and 1, the inputs follow, and each node reads earlier gates
pub record IsCircuit (ns : List Node) : Type 0 where
  pub zero : slice_get ns 0 ≡ Some (Constant false)
  pub one : slice_get ns 1 ≡ Some (Constant true)
  pub inputs : (k : ℕ) → k < input_count ns → slice_get ns (2 + k) ≡ Some (Input k)
  pub earlier : (g : ℕ) (n : Node) → slice_get ns g ≡ Some n → ReadsBelow g (input_count ns) n
