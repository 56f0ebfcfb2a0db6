-- What the calls that make a value of two promise, for every choice.
use Rattle.std.specs.Prelude.{◌≡◌, ℕ, ◌<◌, ◌≤◌, Bool, true, false, not, ◌&&◌, ◌||◌, nat_eq, List, length, All}
use Rattle.bit_net.specs.declared.nodes.Gate.{Gate}
use Rattle.bit_net.specs.declared.nodes.Node.{Node}
use Rattle.bit_net.specs.Runs.{Runs}
use Rattle.bit_words.specs.Number.{number, top}
use Rattle.gl_sets.specs.declared.pairs.Pair.{Pair}
use Rattle.gl_sets.specs.Guards.{Points, Tests, guard}
use Rattle.sc_tree.specs.declared.op.BinaryOp.{BinaryOp}
use Rattle.sc_tree.specs.declared.op.BinaryOp.TheVariants as op
use Rattle.sc_typed.specs.Arith.{computed, takes, is_less}

abbrev pub is_shift : BinaryOp → Bool
is_shift op.ShiftLeft = true
is_shift op.ShiftRight = true
is_shift _ = false

-- operators that give the truth of a test, and what they test
abbrev pub is_test : BinaryOp → Bool
is_test op.Less = true
is_test op.Greater = true
is_test op.LessEqual = true
is_test op.GreaterEqual = true
is_test op.Equal = true
is_test op.NotEqual = true
is_test op.And = true
is_test op.Or = true
is_test _ = false

abbrev pub holds : BinaryOp → (bits : ℕ) (sign : Bool) (a b : ℕ) → Bool
holds op.Less n s a b = is_less n s a b
holds op.Greater n s a b = is_less n s b a
holds op.LessEqual n s a b = not (is_less n s b a)
holds op.GreaterEqual n s a b = not (is_less n s a b)
holds op.Equal n s a b = nat_eq a b
holds op.NotEqual n s a b = not (nat_eq a b)
holds op.And n s a b = not (nat_eq a 0) && not (nat_eq b 0)
holds op.Or n s a b = not (nat_eq a 0) || not (nat_eq b 0)
holds _ n s a b = false

-- the gate holds where the operator takes the numbers of two words
pub record IsTaken (ns : List Node) (op : BinaryOp) (sign : Bool) (a b : List Gate) (gate : ℕ) : Type 0 where
  pub below : gate < length ns
  pub value : (choice v : ℕ → Bool) → Runs ns choice v → v gate ≡ takes op (length a) sign (number v a) (number v b)

-- the gate holds where the test of the operator does
pub record IsTested (ns : List Node) (op : BinaryOp) (sign : Bool) (a b : List Gate) (gate : ℕ) : Type 0 where
  pub below : gate < length ns
  pub value : (choice v : ℕ → Bool) → Runs ns choice v → v gate ≡ holds op (length a) sign (number v a) (number v b)

-- the word has that many bits, and spells what the operator makes of the numbers of two words where it takes them
pub record IsComputed (ns : List Node) (op : BinaryOp) (sign : Bool) (bits : ℕ) (a b r : List Gate) : Type 0 where
  pub wide : length r ≡ bits
  pub below : top r ≤ length ns
  pub value : (choice v : ℕ → Bool) → Runs ns choice v → takes op (length a) sign (number v a) (number v b) ≡ true
      → number v r ≡ computed op (length a) sign (number v a) (number v b)

-- the gate holds where two pointers have one target
pub record IsSameTarget (ns : List Node) (a b : List Pair) (gate : ℕ) : Type 0 where
  pub below : gate < length ns
  pub value : (choice v : ℕ → Bool) → Runs ns choice v → (t u : ℕ) → Points v a t → Points v b u → v gate ≡ nat_eq t u

-- a gate for each pair, which holds where the other set points to the target of the pair
pub record HasTests (ns : List Node) (ps others : List Pair) (tests : List Gate) : Type 0 where
  pub wide : length tests ≡ length ps
  pub below : All (λ g. g.at < length ns) tests
  pub holds : (choice v : ℕ → Bool) → Runs ns choice v → Tests v ps tests (λ t. guard v others t)
