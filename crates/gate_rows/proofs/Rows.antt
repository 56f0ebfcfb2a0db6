-- Rows that are sought are the rows that the definition asks for.
use Rattle.std.proofs.Common.{◌≡◌, ℕ, zero, suc, ◌+◌, ◌<◌, ◌≤◌, nat_eq, nat_lt, Bool, true, false, not, ◌&&◌, ◌||◌, if◌then◌else◌, List, [], ◌∷◌, refl, sym, ◌∙◌, ap, arith, true≢false}
use Rattle.std.specs.Prelude.{Option, Some, None}
use Rattle.std.specs.List.{list_any, range_with_len}
use Rattle.std.proofs.lemmas.Bool.{eq-eqb, ne_eqb, le-ltb, lt-ltb, ltb-true, ltb-false}
use Rattle.bit_words.specs.Number.{number}
use Rattle.gl_sets.proofs.BoolLemmas.{same}
use Rattle.sum_rows.specs.declared.row.Gives.{Gives}
use Rattle.sum_rows.specs.declared.row.Gives.TheVariants as gives
use Rattle.sum_rows.specs.declared.row.Row.{Row}
use Rattle.sum_rows.specs.declared.row.State.{State}
use Rattle.sum_rows.specs.declared.row.State.TheVariants as state
use Rattle.sc_world.specs.World.{Env, states}
use Rattle.sc_world.specs.Known.{row, same_gives, same_row, same_state, stands, stands_if, from_state, param_state, out_state}
use Rattle.gate_rows.specs.declared.sought.Outcome.{Outcome}
use Rattle.gate_rows.specs.declared.sought.Outcome.TheVariants as outcome
use Rattle.gate_rows.specs.declared.sought.Sought.{Sought}
use Rattle.gate_rows.specs.Sought.{gives_of, is_from, is_out, is_outcome, is_side, is_some_state, is_sought, is_spelt, param_number, pointer_number, pointer_state, state_number}

-- Results.

outcome_is : (v : ℕ → Bool) (o : Outcome) (g : Gives) → is_outcome v o g ≡ same_gives (gives_of v o) g
outcome_is v outcome.Nothing g = refl
outcome_is v (outcome.Zero z) g = by (v z.at) g refl
  where
    by : (b : Bool) (g : Gives) → v z.at ≡ b → is_outcome v (outcome.Zero z) g ≡ same_gives (if b then gives.Zero else gives.NotZero) g
    by true gives.Nothing e = refl
    by true gives.Zero e = e
    by true gives.NotZero e = ap not e
    by false gives.Nothing e = refl
    by false gives.Zero e = e
    by false gives.NotZero e = ap not e

-- States.

pub numbered_is : (n : ℕ) (x : State) → is_spelt n (state_number x) ≡ same_state (state.At n) x
numbered_is n state.Nil = refl
numbered_is n (state.At m) = refl
numbered_is n state.Bad = refl
numbered_is n state.Held = refl
numbered_is n state.Escaped = refl
numbered_is n state.Freed = refl
numbered_is n state.Null = refl
numbered_is n state.Fresh = refl
numbered_is n state.Other = refl
numbered_is n state.Same = refl

-- a number past the last that names something
far : (n k : ℕ) → k < 3 → nat_eq (suc (suc (suc n))) k ≡ false
far n k low = ne_eqb (suc (suc (suc n))) k (λ h. omega (arith, h, low))

pub param_is : (n : ℕ) (x : State) → is_spelt n (param_number x) ≡ is_some_state (param_state n) x
param_is zero state.Nil = refl
param_is zero (state.At m) = refl
param_is zero state.Bad = refl
param_is zero state.Held = refl
param_is zero state.Escaped = refl
param_is zero state.Freed = refl
param_is zero state.Null = refl
param_is zero state.Fresh = refl
param_is zero state.Other = refl
param_is zero state.Same = refl
param_is (suc zero) state.Nil = refl
param_is (suc zero) (state.At m) = refl
param_is (suc zero) state.Bad = refl
param_is (suc zero) state.Held = refl
param_is (suc zero) state.Escaped = refl
param_is (suc zero) state.Freed = refl
param_is (suc zero) state.Null = refl
param_is (suc zero) state.Fresh = refl
param_is (suc zero) state.Other = refl
param_is (suc zero) state.Same = refl
param_is (suc (suc zero)) state.Nil = refl
param_is (suc (suc zero)) (state.At m) = refl
param_is (suc (suc zero)) state.Bad = refl
param_is (suc (suc zero)) state.Held = refl
param_is (suc (suc zero)) state.Escaped = refl
param_is (suc (suc zero)) state.Freed = refl
param_is (suc (suc zero)) state.Null = refl
param_is (suc (suc zero)) state.Fresh = refl
param_is (suc (suc zero)) state.Other = refl
param_is (suc (suc zero)) state.Same = refl
param_is (suc (suc (suc n))) state.Nil = refl
param_is (suc (suc (suc n))) (state.At m) = refl
param_is (suc (suc (suc n))) state.Bad = refl
param_is (suc (suc (suc n))) state.Held = far n 0 (omega arith)
param_is (suc (suc (suc n))) state.Escaped = far n 1 (omega arith)
param_is (suc (suc (suc n))) state.Freed = far n 2 (omega arith)
param_is (suc (suc (suc n))) state.Null = refl
param_is (suc (suc (suc n))) state.Fresh = refl
param_is (suc (suc (suc n))) state.Other = refl
param_is (suc (suc (suc n))) state.Same = refl

pub pointer_is : (n : ℕ) (x : State) → is_spelt n (pointer_number x) ≡ is_some_state (pointer_state n) x
pointer_is zero state.Nil = refl
pointer_is zero (state.At m) = refl
pointer_is zero state.Bad = refl
pointer_is zero state.Held = refl
pointer_is zero state.Escaped = refl
pointer_is zero state.Freed = refl
pointer_is zero state.Null = refl
pointer_is zero state.Fresh = refl
pointer_is zero state.Other = refl
pointer_is zero state.Same = refl
pointer_is (suc zero) state.Nil = refl
pointer_is (suc zero) (state.At m) = refl
pointer_is (suc zero) state.Bad = refl
pointer_is (suc zero) state.Held = refl
pointer_is (suc zero) state.Escaped = refl
pointer_is (suc zero) state.Freed = refl
pointer_is (suc zero) state.Null = refl
pointer_is (suc zero) state.Fresh = refl
pointer_is (suc zero) state.Other = refl
pointer_is (suc zero) state.Same = refl
pointer_is (suc (suc zero)) state.Nil = refl
pointer_is (suc (suc zero)) (state.At m) = refl
pointer_is (suc (suc zero)) state.Bad = refl
pointer_is (suc (suc zero)) state.Held = refl
pointer_is (suc (suc zero)) state.Escaped = refl
pointer_is (suc (suc zero)) state.Freed = refl
pointer_is (suc (suc zero)) state.Null = refl
pointer_is (suc (suc zero)) state.Fresh = refl
pointer_is (suc (suc zero)) state.Other = refl
pointer_is (suc (suc zero)) state.Same = refl
pointer_is (suc (suc (suc n))) state.Nil = refl
pointer_is (suc (suc (suc n))) (state.At m) = refl
pointer_is (suc (suc (suc n))) state.Bad = refl
pointer_is (suc (suc (suc n))) state.Held = refl
pointer_is (suc (suc (suc n))) state.Escaped = refl
pointer_is (suc (suc (suc n))) state.Freed = refl
pointer_is (suc (suc (suc n))) state.Null = far n 0 (omega arith)
pointer_is (suc (suc (suc n))) state.Fresh = far n 1 (omega arith)
pointer_is (suc (suc (suc n))) state.Other = far n 2 (omega arith)
pointer_is (suc (suc (suc n))) state.Same = refl

pub out_is : (n : ℕ) (x : State) → is_out n x ≡ same_state (out_state n) x
out_is zero state.Nil = refl
out_is zero (state.At m) = refl
out_is zero state.Bad = refl
out_is zero state.Held = refl
out_is zero state.Escaped = refl
out_is zero state.Freed = refl
out_is zero state.Null = refl
out_is zero state.Fresh = refl
out_is zero state.Other = refl
out_is zero state.Same = refl
out_is (suc zero) state.Nil = refl
out_is (suc zero) (state.At m) = refl
out_is (suc zero) state.Bad = refl
out_is (suc zero) state.Held = refl
out_is (suc zero) state.Escaped = refl
out_is (suc zero) state.Freed = refl
out_is (suc zero) state.Null = refl
out_is (suc zero) state.Fresh = refl
out_is (suc zero) state.Other = refl
out_is (suc zero) state.Same = refl
out_is (suc (suc zero)) state.Nil = refl
out_is (suc (suc zero)) (state.At m) = refl
out_is (suc (suc zero)) state.Bad = refl
out_is (suc (suc zero)) state.Held = refl
out_is (suc (suc zero)) state.Escaped = refl
out_is (suc (suc zero)) state.Freed = refl
out_is (suc (suc zero)) state.Null = refl
out_is (suc (suc zero)) state.Fresh = refl
out_is (suc (suc zero)) state.Other = refl
out_is (suc (suc zero)) state.Same = refl
out_is (suc (suc (suc n))) state.Nil = refl
out_is (suc (suc (suc n))) (state.At m) = refl
out_is (suc (suc (suc n))) state.Bad = refl
out_is (suc (suc (suc n))) state.Held = refl
out_is (suc (suc (suc n))) state.Escaped = refl
out_is (suc (suc (suc n))) state.Freed = refl
out_is (suc (suc (suc n))) state.Null = far n 0 (omega arith)
out_is (suc (suc (suc n))) state.Fresh = far n 1 (omega arith)
out_is (suc (suc (suc n))) state.Other = far n 2 (omega arith)
out_is (suc (suc (suc n))) state.Same =
    ap (λ b. not (b || (nat_eq (suc (suc (suc n))) 1 || nat_eq (suc (suc (suc n))) 2))) (far n 0 (omega arith))
    ∙ ap (λ b. not (b || nat_eq (suc (suc (suc n))) 2)) (far n 1 (omega arith)) ∙ ap not (far n 2 (omega arith))

-- Rows.

any_same : {A : Type 0} (f g : A → Bool) (xs : List A) → ((x : A) → f x ≡ g x) → list_any f xs ≡ list_any g xs
any_same f g [] h = refl
any_same f g (x ∷ xs) h = ap (λ b. b || list_any f xs) (h x) ∙ ap (λ b. g x || b) (any_same f g xs h)

any_never : {A : Type 0} (xs : List A) → list_any (λ x. false) xs ≡ false
any_never [] = refl
any_never (x ∷ xs) = any_never xs

module _ (v : ℕ → Bool) (q : Sought) (g : ℕ) (r : Gives) (here : number v q.given.now ≡ g) (result : gives_of v q.result ≡ r) where
  row_is : (before after : State → Bool) → ((x : State) → is_side v q.before x ≡ before x) → ((x : State) → is_side v q.after x ≡ after x) → (x : Row)
      → is_sought v q x ≡ (nat_eq g x.given && (before x.before && (same_gives r x.result && after x.after)))
  row_is before after from to x =
      ap (λ n. nat_eq n x.given && (is_side v q.before x.before && (is_outcome v q.result x.result && is_side v q.after x.after))) here
      ∙ ap (λ b. nat_eq g x.given && (b && (is_outcome v q.result x.result && is_side v q.after x.after))) (from x.before)
      ∙ ap (λ b. nat_eq g x.given && (before x.before && (b && is_side v q.after x.after)))
      (outcome_is v q.result x.result ∙ ap (λ y. same_gives y x.result) result)
      ∙ ap (λ b. nat_eq g x.given && (before x.before && (same_gives r x.result && b))) (to x.after)

  -- the row from one state to another
  pub sought_stands : (b a : State) (rows : List Row) → ((x : State) → is_side v q.before x ≡ same_state b x)
      → ((x : State) → is_side v q.after x ≡ same_state a x)
      → list_any (is_sought v q) rows ≡ stands (row g b r a) rows
  sought_stands b a rows from to = any_same (is_sought v q) (same_row (row g b r a)) rows (row_is (same_state b) (same_state a) from to)

  -- the row to a state that the choice may name
  pub sought_if : (b : State) (a : Option State) (rows : List Row) → ((x : State) → is_side v q.before x ≡ same_state b x)
      → ((x : State) → is_side v q.after x ≡ is_some_state a x) → b ≡ state.Nil → list_any (is_sought v q) rows ≡ stands_if g r a rows
  sought_if b (Some a) rows from to e = sought_stands b a rows from to ∙ ap (λ s. stands (row g s r a) rows) e
  sought_if b None rows from to e =
      any_same (is_sought v q) (λ x. false) rows
      (λ x. row_is (same_state b) (λ s. false) from to x ∙ never (nat_eq g x.given) (same_state b x.before) (same_gives r x.result))
      ∙ any_never rows
    where
      never : (x y z : Bool) → (x && (y && (z && false))) ≡ false
      never true true true = refl
      never true true false = refl
      never true false z = refl
      never false y z = refl

-- From any state: a row from some state of the machine.

abbrev is_state_below : ℕ → State → Bool
is_state_below count (state.At m) = nat_lt m count
is_state_below count _ = false

from_any_is : (count n : ℕ) (x : State) → nat_eq n 15 ≡ true → is_from count n (state_number x) ≡ is_state_below count x
from_any_is count n (state.At m) e = ap (λ b. if b then nat_lt m count else nat_eq n m) e
from_any_is count n state.Nil e = refl
from_any_is count n state.Bad e = refl
from_any_is count n state.Held e = refl
from_any_is count n state.Escaped e = refl
from_any_is count n state.Freed e = refl
from_any_is count n state.Null e = refl
from_any_is count n state.Fresh e = refl
from_any_is count n state.Other e = refl
from_any_is count n state.Same e = refl

from_one_is : (count n : ℕ) (x : State) → nat_eq n 15 ≡ false → is_from count n (state_number x) ≡ same_state (state.At n) x
from_one_is count n (state.At m) e = ap (λ b. if b then nat_lt m count else nat_eq n m) e
from_one_is count n state.Nil e = refl
from_one_is count n state.Bad e = refl
from_one_is count n state.Held e = refl
from_one_is count n state.Escaped e = refl
from_one_is count n state.Freed e = refl
from_one_is count n state.Null e = refl
from_one_is count n state.Fresh e = refl
from_one_is count n state.Other e = refl
from_one_is count n state.Same e = refl

next_low : (start m : ℕ) → start ≤ m → (start ≡ m → ⊥) → start + 1 ≤ m
next_low start m low other = by (nat_lt start m) refl
  where
    by : (b : Bool) → nat_lt start m ≡ b → start + 1 ≤ m
    by true e = omega (arith, ltb-true start m e)
    by false e = absurd (other (omega (arith, low, ltb-false start m e)))

-- a number is one of a range
in_range : (m start len : ℕ) → start ≤ m → list_any (λ s. nat_eq s m) (range_with_len start len) ≡ nat_lt m (start + len)
in_range m start zero low = sym (le-ltb m (start + 0) (omega (arith, low)))
in_range m start (suc len) low = by (nat_eq start m) refl (λ high. in_range m (start + 1) len high)
  where
    by : (b : Bool) → nat_eq start m ≡ b → (start + 1 ≤ m → list_any (λ s. nat_eq s m) (range_with_len (start + 1) len) ≡ nat_lt m (start + 1 + len))
        → (nat_eq start m || list_any (λ s. nat_eq s m) (range_with_len (start + 1) len)) ≡ nat_lt m (start + suc len)
    by true e rest =
        ap (λ b. b || list_any (λ s. nat_eq s m) (range_with_len (start + 1) len)) e ∙ sym (lt-ltb m (start + suc len) (omega (arith, same start m e)))
    by false e rest =
        ap (λ b. b || list_any (λ s. nat_eq s m) (range_with_len (start + 1) len)) e
        ∙ rest (by_next e)
        ∙ ap (nat_lt m) (omega arith)
      where
        by_next : nat_eq start m ≡ false → start + 1 ≤ m
        by_next off = next_low start m low (λ h. true≢false (sym (eq-eqb start m h) ∙ off))

from_zero : (n : ℕ) → 0 + n ≡ n
from_zero n = omega arith

some_below : (count : ℕ) (x : State) → list_any (λ s. same_state (state.At s) x) (range_with_len 0 count) ≡ is_state_below count x
some_below count (state.At m) = in_range m 0 count (omega arith) ∙ ap (nat_lt m) (from_zero count)
some_below count state.Nil = any_never (range_with_len 0 count)
some_below count state.Bad = any_never (range_with_len 0 count)
some_below count state.Held = any_never (range_with_len 0 count)
some_below count state.Escaped = any_never (range_with_len 0 count)
some_below count state.Freed = any_never (range_with_len 0 count)
some_below count state.Null = any_never (range_with_len 0 count)
some_below count state.Fresh = any_never (range_with_len 0 count)
some_below count state.Other = any_never (range_with_len 0 count)
some_below count state.Same = any_never (range_with_len 0 count)

any_or : {A : Type 0} (f g : A → Bool) (xs : List A) → list_any (λ x. f x || g x) xs ≡ (list_any f xs || list_any g xs)
any_or f g [] = refl
any_or f g (x ∷ xs) = ap (λ b. (f x || g x) || b) (any_or f g xs) ∙ changed (f x) (g x) (list_any f xs) (list_any g xs)
  where
    changed : (a b c d : Bool) → ((a || b) || (c || d)) ≡ ((a || c) || (b || d))
    changed true b c d = refl
    changed false true true d = refl
    changed false true false d = refl
    changed false false c d = refl

-- rows and states changed over
swapped : (f : ℕ → Row → Bool) (ss : List ℕ) (rows : List Row) → list_any (λ s. list_any (f s) rows) ss ≡ list_any (λ x. list_any (λ s. f s x) ss) rows
swapped f ss [] = any_never ss
swapped f ss (x ∷ rows) = any_or (λ s. f s x) (λ s. list_any (f s) rows) ss ∙ ap (λ b. list_any (λ s. f s x) ss || b) (swapped f ss rows)

-- what does not speak of the state stands outside
any_and : (f : ℕ → Bool) (ss : List ℕ) (a b : Bool) → list_any (λ s. a && (f s && b)) ss ≡ (a && (list_any f ss && b))
any_and f [] true b = refl
any_and f [] false b = refl
any_and f (s ∷ ss) a b = ap (λ c. (a && (f s && b)) || c) (any_and f ss a b) ∙ outside a (f s) (list_any f ss) b
  where
    outside : (a x y b : Bool) → ((a && (x && b)) || (a && (y && b))) ≡ (a && ((x || y) && b))
    outside false x y b = refl
    outside true true y true = refl
    outside true true true false = refl
    outside true true false false = refl
    outside true false y b = refl

module _ (v : ℕ → Bool) (q : Sought) (g : ℕ) (r : Gives) (here : number v q.given.now ≡ g) (result : gives_of v q.result ≡ r) where
  -- the row from the state at hand; from any state, a row from some state
  pub sought_from : (env : Env) (before : ℕ) (a : State) (rows : List Row)
      → ((x : State) → is_side v q.before x ≡ is_from (states env.source) before (state_number x))
      → ((x : State) → is_side v q.after x ≡ same_state a x) → list_any (is_sought v q) rows ≡ from_state env g before r a rows
  sought_from env before a rows from to = by (nat_eq before 15) refl
    where
      by : (b : Bool) → nat_eq before 15 ≡ b
          → list_any (is_sought v q) rows
          ≡ (if b then list_any (λ s. stands (row g (state.At s) r a) rows) (range_with_len 0 (states env.source)) else stands (row g (state.At before) r a)
          rows)
      by false e = sought_stands v q g r here result (state.At before) a rows (λ x. from x ∙ from_one_is (states env.source) before x e) to
      by true e =
          any_same (is_sought v q) (λ x. list_any (λ s. same_row (row g (state.At s) r a) x) (range_with_len 0 (states env.source))) rows
          (λ x.
          row_is v q g r here result (is_state_below (states env.source)) (same_state a) (λ y. from y ∙ from_any_is (states env.source) before y e) to x
          ∙ ap (λ b. nat_eq g x.given && (b && (same_gives r x.result && same_state a x.after))) (sym (some_below (states env.source) x.before))
          ∙ sym (any_and (λ s. same_state (state.At s) x.before) (range_with_len 0 (states env.source)) (nat_eq g x.given)
          (same_gives r x.result && same_state a x.after)))
          ∙ sym (swapped (λ s x. same_row (row g (state.At s) r a) x) (range_with_len 0 (states env.source)) rows)
