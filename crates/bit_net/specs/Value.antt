-- The value of a gate. A net is the list of its nodes; gate g is node g. The value of a node is its truth table over the values
-- of the nodes before it, and an input has the value that the choice gives it.
use Rattle.std.specs.Prelude.{ℕ, Bool, true, false, not, ◌&&◌, ◌||◌, if◌then◌else◌, List, [], ◌∷◌, ◌++◌, slice_index_or}
use Rattle.bit_net.specs.declared.nodes.Node.{Node}
use Rattle.bit_net.specs.declared.nodes.Node.TheVariants.{Constant, Input, Not, And, Or, Xor, Mux}

-- the bit at a place of a list, false past its end
unfoldable pub bit_at : List Bool → ℕ → Bool
bit_at bits k = slice_index_or bits k false

-- just one of the two holds
abbrev pub xor : Bool → Bool → Bool
xor true b = not b
xor false b = b

-- the value of a node, where the inputs have the values `choice` and earlier gates the values `v`
abbrev pub table : (choice v : ℕ → Bool) → Node → Bool
table choice v (Constant b) = b
table choice v (Input k) = choice k
table choice v (Not a) = not (v a.at)
table choice v (And a b) = v a.at && v b.at
table choice v (Or a b) = v a.at || v b.at
table choice v (Xor a b) = xor (v a.at) (v b.at)
table choice v (Mux c a b) = if v c.at then v a.at else v b.at

-- the values so far, and behind them those of the nodes that follow
abbrev pub values_from : (ℕ → Bool) → List Bool → List Node → List Bool
values_from choice seen [] = seen
values_from choice seen (n ∷ ns) = values_from choice (seen ++ table choice (bit_at seen) n ∷ []) ns

-- the values of all gates, in order
unfoldable pub values : (ℕ → Bool) → List Node → List Bool
values choice ns = values_from choice [] ns

-- the value of gate g, where the inputs have the values `choice`
unfoldable pub value : (ℕ → Bool) → List Node → ℕ → Bool
value choice ns g = bit_at (values choice ns) g
