-- What a solver knows of the gates of a net that are loaded into it. A gate has a literal: a variable of its own, or for the
-- opposite of a gate the opposite of that one's literal.

use Rattle.std.specs.Prelude.{◌≡◌, ℕ, ◌+◌, ◌<◌, ◌≤◌, Bool, true, false, not, ◌&&◌, ◌||◌, if◌then◌else◌, List, length, Option, Some, None, IsSome, slice_get, slice_set, slice_index_or}
use Rattle.bit_net.specs.declared.nodes.Node.{Node}
use Rattle.bit_net.specs.declared.nodes.Node.TheVariants.{Constant, Input, Not, And, Or, Xor, Mux}
use Rattle.bit_net.specs.Value.{value, xor}
use Rattle.bit_net.specs.Circuit.{input_count}
use Rattle.sat_base.specs.declared.literal.Lit.{Lit}
use Rattle.sat_base.specs.Logic.{lit_true, all_true, AgreeBelow}

-- the literal of gate g, if the gate is loaded
abbrev pub lit_at : List (Option Lit) → ℕ → Option Lit
lit_at loaded g = slice_index_or loaded g None

-- the loaded gates keep their literals
abbrev pub Keeps : (old new : List (Option Lit)) → Type 0
Keeps old new = (g : ℕ) (l : Lit) → lit_at old g ≡ Some l → lit_at new g ≡ Some l

-- the variables of the loaded gates are below n
abbrev pub LoadedBelow : ℕ → List (Option Lit) → Type 0
LoadedBelow n loaded = (g : ℕ) (l : Lit) → lit_at loaded g ≡ Some l → l.var < n

-- the loaded inputs have the values of the choice
abbrev pub AgreesWith : List Node → List (Option Lit) → (choice f : ℕ → Bool) → Type 0
AgreesWith ns loaded choice f =
    (k : ℕ) (l : Lit) → k < input_count ns → lit_at loaded (2 + k) ≡ Some l → lit_true f l ≡ choice k

-- the loaded gates have the values that they have for the choice
abbrev pub HasValues : List Node → List (Option Lit) → (choice f : ℕ → Bool) → Type 0
HasValues ns loaded choice f = (g : ℕ) (l : Lit) → lit_at loaded g ≡ Some l → lit_true f l ≡ value choice ns g

-- every choice has just one extension to the loaded gates that satisfies the clauses: their values
pub record AreLoaded (ns : List Node) (loaded : List (Option Lit)) (vars : ℕ) (clauses : List (List Lit)) : Type 0 where
  -- they are gates of the net, and their variables exist
  pub inside : (g : ℕ) (l : Lit) → lit_at loaded g ≡ Some l → (g < length ns) × (l.var < vars)
  -- whoever satisfies the clauses gives each loaded gate the value that it has for the choice
  pub values : (choice f : ℕ → Bool) → all_true f clauses ≡ true → AgreesWith ns loaded choice f → HasValues ns loaded choice f
  -- and for each choice someone does
  pub extension : (choice : ℕ → Bool) → (f : ℕ → Bool) × (all_true f clauses ≡ true) × HasValues ns loaded choice f

-- whoever satisfies the new clauses satisfies the old ones, and the literal is as the test; and whoever satisfies the old ones can
-- be made so by other values of variables from n on
pub record Defines (n : ℕ) (old new : List (List Lit)) (out : Lit) (test : (ℕ → Bool) → Bool) : Type 0 where
  pub earlier : (f : ℕ → Bool) → all_true f new ≡ true → all_true f old ≡ true
  pub means : (f : ℕ → Bool) → all_true f new ≡ true → lit_true f out ≡ test f
  pub later : (f : ℕ → Bool) → all_true f old ≡ true
      → (h : ℕ → Bool) × AgreeBelow n f h × (all_true h new ≡ true) × (lit_true h out ≡ test f)

-- the same of a literal that may have either value
pub record LeavesFree (n : ℕ) (old new : List (List Lit)) (out : Lit) : Type 0 where
  pub same : new ≡ old
  pub later : (f : ℕ → Bool) (b : Bool) → all_true f old ≡ true
      → (h : ℕ → Bool) × AgreeBelow n f h × (all_true h new ≡ true) × (lit_true h out ≡ b)

-- the value that an assignment gives to gate g by its literal
abbrev pub opt_true : (ℕ → Bool) → Option Lit → Bool
opt_true f (Some l) = lit_true f l
opt_true f None = false

abbrev pub loaded_value : (ℕ → Bool) → List (Option Lit) → ℕ → Bool
loaded_value f loaded g = opt_true f (lit_at loaded g)

-- the literal has the value of the node over the loaded gates
abbrev pub Encodes : (loaded : List (Option Lit)) → Node → (n : ℕ) → (old new : List (List Lit)) → Lit → Type 0
Encodes loaded (Constant b) n old new out = Defines n old new out (λ f. b)
Encodes loaded (Input k) n old new out = LeavesFree n old new out
Encodes loaded (Not a) n old new out = Defines n old new out (λ f. not (loaded_value f loaded a.at))
Encodes loaded (And a b) n old new out = Defines n old new out (λ f. loaded_value f loaded a.at && loaded_value f loaded b.at)
Encodes loaded (Or a b) n old new out = Defines n old new out (λ f. loaded_value f loaded a.at || loaded_value f loaded b.at)
Encodes loaded (Xor a b) n old new out = Defines n old new out (λ f. xor (loaded_value f loaded a.at) (loaded_value f loaded b.at))
Encodes loaded (Mux c a b) n old new out =
    Defines n old new out (λ f. if loaded_value f loaded c.at then loaded_value f loaded a.at else loaded_value f loaded b.at)

-- true is the opposite of false, which is gate 0 of every net; so both constants have one variable
abbrev pub plain : Node → Node
plain (Constant true) = Not (record { at = 0 })
plain (Constant false) = Constant false
plain (Input k) = Input k
plain (Not a) = Not a
plain (And a b) = And a b
plain (Or a b) = Or a b
plain (Xor a b) = Xor a b
plain (Mux c a b) = Mux c a b

-- a fact of each gate that the node reads
abbrev pub EachOperand : (ℕ → Type 0) → Node → Type 0
EachOperand P (Constant b) = Unit {0}
EachOperand P (Input k) = Unit {0}
EachOperand P (Not a) = P a.at
EachOperand P (And a b) = P a.at × P b.at
EachOperand P (Or a b) = P a.at × P b.at
EachOperand P (Xor a b) = P a.at × P b.at
EachOperand P (Mux c a b) = P c.at × P a.at × P b.at

abbrev pub IsLoadedAt : List (Option Lit) → ℕ → Type 0
IsLoadedAt loaded g = IsSome (lit_at loaded g)

abbrev pub is_marked : List Bool → ℕ → Bool
is_marked marks g = slice_index_or marks g false

-- the marks, and one for each gate that the node reads
abbrev pub with_operands : Node → List Bool → List Bool
with_operands (Constant b) marks = marks
with_operands (Input k) marks = marks
with_operands (Not a) marks = slice_set marks a.at true
with_operands (And a b) marks = slice_set (slice_set marks a.at true) b.at true
with_operands (Or a b) marks = slice_set (slice_set marks a.at true) b.at true
with_operands (Xor a b) marks = slice_set (slice_set marks a.at true) b.at true
with_operands (Mux c a b) marks = slice_set (slice_set (slice_set marks c.at true) a.at true) b.at true

-- where gate g is marked and not loaded, the gates that it reads are marked
pub record IsClosedAt (ns : List Node) (loaded : List (Option Lit)) (marks : List Bool) (g : ℕ) : Type 0 where
  pub closed : (n : Node) → slice_get ns g ≡ Some n → is_marked marks g ≡ true → lit_at loaded g ≡ None
      → EachOperand (λ a. is_marked marks a ≡ true) (plain n)

-- gate g is closed, the marks stay, and those from g on are as before
pub record IsClosing (ns : List Node) (loaded : List (Option Lit)) (g : ℕ) (old new : List Bool) : Type 0 where
  pub kept : (a : ℕ) → is_marked old a ≡ true → is_marked new a ≡ true
  pub later : (a : ℕ) → g ≤ a → is_marked new a ≡ is_marked old a
  pub closed : IsClosedAt ns loaded new g

-- the marks hold the gate, and with every gate that is not loaded those that it reads
pub record IsCone (ns : List Node) (loaded : List (Option Lit)) (gate : ℕ) (marks : List Bool) : Type 0 where
  pub width : length marks ≡ gate + 1
  pub top : is_marked marks gate ≡ true
  pub closed : (g : ℕ) → g < gate + 1 → IsClosedAt ns loaded marks g
