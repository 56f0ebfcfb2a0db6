-- States that are sought, by their numbers.
use Rattle.std.proofs.Common.{◌≡◌, ℕ, ◌+◌, ◌<◌, ◌≤◌, nat_eq, nat_lt, Bool, true, false, not, ◌&&◌, ◌||◌, if◌then◌else◌, List, [], ◌∷◌, ◌++◌, length, take, get_or, refl, sym, ◌∙◌, ap, subst}
use Rattle.std.specs.Prelude.{Some}
use Rattle.std.specs.List.{list_any}
use Rattle.std.proofs.lemmas.Bool.{le-ltb, lt-ltb}
use Rattle.std.proofs.lemmas.List.{take_more, take_all}
use Rattle.bit_net.specs.declared.nodes.Gate.{Gate}
use Rattle.bit_net.specs.declared.nodes.Node.{Node}
use Rattle.bit_net.specs.Runs.{Grown, Gives}
use Rattle.bit_words.specs.Number.{number}
use Rattle.gl_sets.proofs.BoolLemmas.{or_assoc, or_false, same}
use Rattle.sum_rows.specs.declared.row.Row.{Row}
use Rattle.gate_rows.specs.declared.sought.Sought.{Sought}
use Rattle.gate_rows.specs.Sought.{is_from, is_outcome, is_side, is_sought, names_none}

-- From any state a row from each state of the machine counts.

from_low : (count n m : ℕ) → nat_lt m count ≡ true → (nat_eq n 15 || nat_eq n m) ≡ is_from count n (Some m)
from_low count n m low = by (nat_eq n 15)
  where
    by : (b : Bool) → (b || nat_eq n m) ≡ (if b then nat_lt m count else nat_eq n m)
    by true = sym low
    by false = refl

from_any : (count n m : ℕ) → nat_lt m count ≡ false → m ≡ 15 → false ≡ is_from count n (Some m)
from_any count n m high e = by (nat_eq n 15) refl
  where
    by : (b : Bool) → nat_eq n 15 ≡ b → false ≡ (if b then nat_lt m count else nat_eq n m)
    by true h = sym high
    by false h = sym (ap (nat_eq n) e ∙ h)

from_high : (count n m : ℕ) → nat_lt m count ≡ false → (m ≡ 15 → ⊥) → nat_eq n m ≡ is_from count n (Some m)
from_high count n m high other = by (nat_eq n 15) (nat_eq n m) refl refl
  where
    by : (b c : Bool) → nat_eq n 15 ≡ b → nat_eq n m ≡ c → nat_eq n m ≡ (if b then nat_lt m count else nat_eq n m)
    by false c h k = refl
    by true false h k = k ∙ sym high
    by true true h k = absurd (other (sym (same n m k) ∙ same n 15 h))

pub low_gate : (n1 n2 ns : List Node) (bits : List Gate) (count m any' here gate : ℕ) → m < count → Grown n1 n2 → Grown n2 ns
    → Gives n1 any' (λ choice v. nat_eq (number v bits) 15) → Gives n2 here (λ choice v. nat_eq (number v bits) m)
    → Gives ns gate (λ choice v. v any' || v here)
    → Gives ns gate (λ choice v. is_from count (number v bits) (Some m))
low_gate n1 n2 ns bits count m any' here gate low grown12 grown23 first second both =
    record {
      below = both.below;
      value = λ choice v runs.
          let r2 = grown23.runs choice v runs in
          both.value choice v runs ∙ ap (λ b. b || v here) (first.value choice v (grown12.runs choice v r2))
          ∙ ap (λ b. nat_eq (number v bits) 15 || b) (second.value choice v r2) ∙ from_low count (number v bits) m (lt-ltb m count low);
    }

pub any_gate : (ns : List Node) (bits : List Gate) (count m gate : ℕ) → count ≤ m → m ≡ 15 → Gives ns gate (λ choice v. false)
    → Gives ns gate (λ choice v. is_from count (number v bits) (Some m))
any_gate ns bits count m gate high e gives =
    record { below = gives.below; value = λ choice v runs. gives.value choice v runs ∙ from_any count (number v bits) m (le-ltb m count high) e }

pub high_gate : (ns : List Node) (bits : List Gate) (count m gate : ℕ) → count ≤ m → (m ≡ 15 → ⊥) → Gives ns gate (λ choice v. nat_eq (number v bits) m)
    → Gives ns gate (λ choice v. is_from count (number v bits) (Some m))
high_gate ns bits count m gate high other gives =
    record { below = gives.below; value = λ choice v runs. gives.value choice v runs ∙ from_high count (number v bits) m (le-ltb m count high) other }

-- Gates that are put together.

pub none_gate : (n1 n2 n3 n4 n5 n6 : List Node) (bits : List Gate) (null fresh other object some gate : ℕ) → Grown n1 n2 → Grown n2 n3 → Grown n3 n4
    → Grown n4 n5 → Grown n5 n6
    → Gives n1 null (λ choice v. nat_eq (number v bits) 0) → Gives n2 fresh (λ choice v. nat_eq (number v bits) 1)
    → Gives n3 other (λ choice v. nat_eq (number v bits) 2)
    → Gives n4 object (λ choice v. v fresh || v other) → Gives n5 some (λ choice v. v null || v object) → Gives n6 gate (λ choice v. not (v some))
    → Gives n6 gate (λ choice v. names_none (number v bits))
none_gate n1 n2 n3 n4 n5 n6 bits null fresh other object some gate g12 g23 g34 g45 g56 first second third both all none =
    record {
      below = none.below;
      value = λ choice v runs.
          let r5 = g56.runs choice v runs in
          let r4 = g45.runs choice v r5 in
          let r3 = g34.runs choice v r4 in
          let r2 = g23.runs choice v r3 in
          let r1 = g12.runs choice v r2 in
          none.value choice v runs
          ∙ ap not (all.value choice v r5 ∙ ap (λ b. b || v object) (first.value choice v r1)
          ∙ ap (λ b. nat_eq (number v bits) 0 || b) (both.value choice v r4 ∙ ap (λ b. b || v other) (second.value choice v r2)
          ∙ ap (λ b. nat_eq (number v bits) 1 || b) (third.value choice v r3)));
    }

pub row_gate : (n1 n2 n3 n4 n5 n6 n7 : List Node) (q : Sought) (r : Row) (given before gives' after end states gate : ℕ) → Grown n1 n2 → Grown n2 n3
    → Grown n3 n4 → Grown n4 n5
    → Grown n5 n6 → Grown n6 n7 → Gives n1 given (λ choice v. nat_eq (number v q.given.now) r.given) → Gives n2 before (λ choice v. is_side v q.before r.before)
    → Gives n3 gives' (λ choice v. is_outcome v q.result r.result) → Gives n4 after (λ choice v. is_side v q.after r.after)
    → Gives n5 end (λ choice v. v gives' && v after)
    → Gives n6 states (λ choice v. v before && v end) → Gives n7 gate (λ choice v. v given && v states) → Gives n7 gate (λ choice v. is_sought v q r)
row_gate n1 n2 n3 n4 n5 n6 n7 q r given before gives' after end states gate g12 g23 g34 g45 g56 g67 first second third fourth last two all =
    record {
      below = all.below;
      value = λ choice v runs.
          let r6 = g67.runs choice v runs in
          let r5 = g56.runs choice v r6 in
          let r4 = g45.runs choice v r5 in
          let r3 = g34.runs choice v r4 in
          let r2 = g23.runs choice v r3 in
          let r1 = g12.runs choice v r2 in
          all.value choice v runs ∙ ap (λ b. b && v states) (first.value choice v r1)
          ∙ ap (λ b. nat_eq (number v q.given.now) r.given && b) (two.value choice v r6 ∙ ap (λ b. b && v end) (second.value choice v r2)
          ∙ ap (λ b. is_side v q.before r.before && b) (last.value choice v r5 ∙ ap (λ b. b && v after) (third.value choice v r3)
          ∙ ap (λ b. is_outcome v q.result r.result && b) (fourth.value choice v r4)));
    }

-- The rows so far.

any_more : (f : Row → Bool) (rows : List Row) (r : Row) → list_any f (rows ++ r ∷ []) ≡ (list_any f rows || f r)
any_more f [] r = or_false (f r)
any_more f (x ∷ rows) r = ap (λ b. f x || b) (any_more f rows r) ∙ sym (or_assoc (f x) (list_any f rows) (f r))

module _ (q : Sought) (rows : List Row) where
  pub rows_none : (ns : List Node) (gate : ℕ) → Gives ns gate (λ choice v. false) → Gives ns gate (λ choice v. list_any (is_sought v q) (take 0 rows))
  rows_none ns gate gives = gives

  pub rows_step : (n1 n2 n3 : List Node) (i : ℕ) (d : Row) (some here gate : ℕ) → i < length rows → Grown n1 n2 → Grown n2 n3
      → Gives n1 some (λ choice v. list_any (is_sought v q) (take i rows)) → Gives n2 here (λ choice v. is_sought v q (get_or rows i d))
      → Gives n3 gate (λ choice v. v some || v here) → Gives n3 gate (λ choice v. list_any (is_sought v q) (take (i + 1) rows))
  rows_step n1 n2 n3 i d some here gate low grown12 grown23 before one both =
      record {
        below = both.below;
        value = λ choice v runs.
            let r2 = grown23.runs choice v runs in
            both.value choice v runs
            ∙ ap (λ b. b || v here) (before.value choice v (grown12.runs choice v r2))
            ∙ ap (λ b. list_any (is_sought v q) (take i rows) || b) (one.value choice v r2)
            ∙ sym (any_more (is_sought v q) (take i rows) (get_or rows i d))
            ∙ ap (list_any (is_sought v q)) (sym (take_more rows i d low));
      }

  pub rows_all : (ns : List Node) (i gate : ℕ) → length rows ≤ i → Gives ns gate (λ choice v. list_any (is_sought v q) (take i rows))
      → Gives ns gate (λ choice v. list_any (is_sought v q) rows)
  rows_all ns i gate high gives = subst (λ rs. Gives ns gate (λ choice v. list_any (is_sought v q) rs)) (take_all i rows high) gives
