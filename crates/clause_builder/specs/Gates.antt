-- What the clauses of a gate say, by the literals of the gates.

use Rattle.std.specs.Prelude.{ℕ, zero, suc, ◌+◌, ◌<◌, Bool, true, false, not, ◌&&◌, ◌||◌, if◌then◌else◌, List, map, slice_index_or}
use Rattle.std.specs.List.{range_with_len}
use Rattle.bit_net.specs.declared.nodes.Node.{Node}
use Rattle.bit_net.specs.declared.nodes.Node.TheVariants.{Constant, Input, Not, And, Or, Xor, Mux}
use Rattle.bit_net.specs.Value.{xor}
use Rattle.sat_base.specs.declared.literal.Lit.{Lit}
use Rattle.sat_base.specs.Logic.{lit_true}

-- the literal of gate g, where the gates have the variables from base on
abbrev pub gate_lit : ℕ → ℕ → Lit
gate_lit base g = record { var = base + g; neg = false }

-- the literals of n gates
abbrev pub gate_lits : ℕ → ℕ → List Lit
gate_lits base n = map (gate_lit base) (range_with_len 0 n)

-- the value that an assignment gives to gate g by its literal
unfoldable pub gate_value : (ℕ → Bool) → List Lit → ℕ → Bool
gate_value f lits g = lit_true f (slice_index_or lits g (gate_lit 0 0))

-- both hold, or neither does
abbrev pub alike : Bool → Bool → Bool
alike true b = b
alike false b = not b

-- whether gate g has the value that its node has over the values v; an input may have any
abbrev pub gate_holds : (ℕ → Bool) → ℕ → Node → Bool
gate_holds v g (Constant b) = alike (v g) b
gate_holds v g (Input k) = true
gate_holds v g (Not a) = alike (v g) (not (v a.at))
gate_holds v g (And a b) = alike (v g) (v a.at && v b.at)
gate_holds v g (Or a b) = alike (v g) (v a.at || v b.at)
gate_holds v g (Xor a b) = alike (v g) (xor (v a.at) (v b.at))
gate_holds v g (Mux c a b) = alike (v g) (if v c.at then v a.at else v b.at)

-- the same of all gates below n
abbrev pub gates_hold : (ℕ → Bool) → List Node → ℕ → Bool
gates_hold v ns zero = true
gates_hold v ns (suc g) = gates_hold v ns g && gate_holds v g (slice_index_or ns g (Constant false))

-- the node reads gates below n alone
abbrev pub OperandsBelow : ℕ → Node → Type 0
OperandsBelow n (Constant b) = Unit {0}
OperandsBelow n (Input k) = Unit {0}
OperandsBelow n (Not a) = a.at < n
OperandsBelow n (And a b) = (a.at < n) × (b.at < n)
OperandsBelow n (Or a b) = (a.at < n) × (b.at < n)
OperandsBelow n (Xor a b) = (a.at < n) × (b.at < n)
OperandsBelow n (Mux c a b) = (c.at < n) × (a.at < n) × (b.at < n)
