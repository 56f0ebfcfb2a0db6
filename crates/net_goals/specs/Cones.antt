-- The cone of a gate: the gates that it reads, those that these read, and so on.
use Rattle.std.specs.Prelude.{◌≡◌, ℕ, ◌+◌, ◌<◌, ◌≤◌, Bool, true, false, List, length, slice_get, slice_index_or, slice_set, Some}
use Rattle.bit_net.specs.declared.nodes.Node.{Node}
use Rattle.bit_net.specs.declared.nodes.Node.TheVariants.{Constant, Input, Not, And, Or, Xor, Mux}

-- a fact of each gate that the node reads
abbrev pub EachOperand : (ℕ → Type 0) → Node → Type 0
EachOperand P (Constant b) = Unit {0}
EachOperand P (Input k) = Unit {0}
EachOperand P (Not a) = P a.at
EachOperand P (And a b) = P a.at × P b.at
EachOperand P (Or a b) = P a.at × P b.at
EachOperand P (Xor a b) = P a.at × P b.at
EachOperand P (Mux c a b) = P c.at × P a.at × P b.at

abbrev pub is_marked : List Bool → ℕ → Bool
is_marked marks g = slice_index_or marks g false

-- the marks, and one for each gate that the node reads
abbrev pub with_operands : Node → List Bool → List Bool
with_operands (Constant b) marks = marks
with_operands (Input k) marks = marks
with_operands (Not a) marks = slice_set marks a.at true
with_operands (And a b) marks = slice_set (slice_set marks a.at true) b.at true
with_operands (Or a b) marks = slice_set (slice_set marks a.at true) b.at true
with_operands (Xor a b) marks = slice_set (slice_set marks a.at true) b.at true
with_operands (Mux c a b) marks = slice_set (slice_set (slice_set marks c.at true) a.at true) b.at true

-- where gate g is marked, the gates that it reads are marked
abbrev pub IsClosedAt : List Node → List Bool → ℕ → Type 0
IsClosedAt ns marks g = (n : Node) → slice_get ns g ≡ Some n → is_marked marks g ≡ true → EachOperand (λ a. is_marked marks a ≡ true) n

-- gate g is closed, the marks stay, and those from g on are as before
pub record IsClosing (ns : List Node) (g : ℕ) (old new : List Bool) : Type 0 where
  pub width : length new ≡ length old
  pub kept : (a : ℕ) → is_marked old a ≡ true → is_marked new a ≡ true
  pub later : (a : ℕ) → g ≤ a → is_marked new a ≡ is_marked old a
  pub closed : IsClosedAt ns new g

-- the marks hold the gate, and with every gate those that it reads
pub record IsCone (ns : List Node) (gate : ℕ) (marks : List Bool) : Type 0 where
  pub width : length marks ≡ gate + 1
  pub top : is_marked marks gate ≡ true
  pub closed : (g : ℕ) → g < gate + 1 → IsClosedAt ns marks g
