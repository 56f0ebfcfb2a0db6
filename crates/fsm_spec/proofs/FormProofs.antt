-- The words of a line that were read so far, and what follows where one breaks the form.
use Rattle.std.proofs.Common.{◌≡◌, ℕ, ◌<◌, ◌≤◌, Bool, true, false, List, [], ◌∷◌, ◌++◌, length, refl, sym, ap, ◌∙◌, arith, Some, None, inl, inr}
use Rattle.std.specs.Prelude.{not, ◌&&◌, ◌||◌, nat_le, bytes_eq, if◌then◌else◌}
use Rattle.std.specs.List.{list_all}
use Rattle.std.proofs.lemmas.Bool.{and_parts, and_left, and_right, and_from, or_parts, or_left, or_right, or_from, cases_Bool, not-true, not_from_false, not_from_true, le-leb, lt-leb}
use Rattle.std.proofs.lemmas.List.{append-nil, append_assoc, length-append}
use Rattle.std.proofs.lemmas.Bool.Decides.{same_from_decides}
use Rattle.std.proofs.lemmas.Slice.Eq.{bytes_eq-Decides}
use Rattle.fsm_spec.specs.Words.{is_word, is_among, are_different}
use Rattle.fsm_spec.specs.Forms.{are_states}

-- ---- lists of words

pub all_append : {X : Type 0} (p : X → Bool) (xs ys : List X) → list_all p (xs ++ ys) ≡ (list_all p xs && list_all p ys)
all_append p [] ys = refl
all_append p (x ∷ xs) ys = elim (cases_Bool (p x)) [ inl e ↦ rw e (all_append p xs ys) | inr e ↦ rw e refl ]

pub among_append : (w : List ℕ) (xs ys : List (List ℕ)) → is_among w (xs ++ ys) ≡ (is_among w xs || is_among w ys)
among_append w [] ys = refl
among_append w (x ∷ xs) ys = elim (cases_Bool (bytes_eq x w)) [ inl e ↦ rw e refl | inr e ↦ rw e (among_append w xs ys) ]

-- `==` of two words is the same both ways
bytes_eq_turned : (xs ys : List ℕ) → bytes_eq xs ys ≡ bytes_eq ys xs
bytes_eq_turned xs ys = same_from_decides (bytes_eq xs ys) (bytes_eq ys xs) (bytes_eq-Decides xs ys) (let d = bytes_eq-Decides ys xs in (λ e. sym (d.0 e), λ e. d.1 (sym e)))

-- a word that stands among those before it breaks the list, whatever follows
pub repeated : (xs : List (List ℕ)) (w : List ℕ) (more : List (List ℕ)) → is_among w xs ≡ true → are_different (xs ++ w ∷ more) ≡ false
repeated [] w more h = absurd (cc)
repeated (x ∷ xs) w more h = elim (cases_Bool (bytes_eq x w)) [
  | inl e ↦ (
      let a : is_among x (xs ++ w ∷ more) ≡ true = rw (among_append x xs (w ∷ more)) (or_right (is_among x xs) (bytes_eq w x || is_among x more) (or_left (bytes_eq w x) (is_among x more) (bytes_eq_turned w x ∙ e))) in
      and_left (not (is_among x (xs ++ w ∷ more))) (are_different (xs ++ w ∷ more)) (not_from_true _ a))
  | inr e ↦ (
      let k : is_among w xs ≡ true = rw e at h in
      and_right (not (is_among x (xs ++ w ∷ more))) (are_different (xs ++ w ∷ more)) (repeated xs w more k))
]

-- another word may follow
pub still_different : (xs : List (List ℕ)) (w : List ℕ) → are_different xs ≡ true → is_among w xs ≡ false → are_different (xs ++ w ∷ []) ≡ true
still_different [] w d n = refl
still_different (x ∷ xs) w d n =
    let p = and_parts (not (is_among x xs)) (are_different xs) d in
    let q = or_parts (bytes_eq x w) (is_among w xs) n in
    let a : is_among x (xs ++ w ∷ []) ≡ false = rw (among_append x xs (w ∷ [])) (or_from (is_among x xs) (bytes_eq w x || false) (not-true _ p.0) (or_from (bytes_eq w x) false (bytes_eq_turned w x ∙ q.0) refl)) in
    and_from (not (is_among x (xs ++ w ∷ []))) (are_different (xs ++ w ∷ [])) (not_from_false _ a) (still_different xs w p.1 q.1)

-- ---- states

-- the state words so far, and those that are left
pub record ReadsStates (all left states : List (List ℕ)) : Type 0 where
  pub whole : all ≡ states ++ left
  pub words : list_all is_word states ≡ true
  pub different : are_different states ≡ true
  pub few : length states ≤ 8

pub states_begin : (all : List (List ℕ)) → ReadsStates all all []
states_begin all = record { whole = refl; words = refl; different = refl; few = omega arith }

pub states_grow : (all left states : List (List ℕ)) (w : List ℕ) (rest : List (List ℕ)) → ReadsStates all left states → left ≡ w ∷ rest → ¬ (length states ≡ 8) → is_word w ≡ true → is_among w states ≡ false → ReadsStates all rest (states ++ w ∷ [])
states_grow all left states w rest r e few word new = record {
  whole = r.whole ∙ ap (λ l. states ++ l) e ∙ sym (append_assoc states (w ∷ []) rest);
  words = all_append is_word states (w ∷ []) ∙ and_from (list_all is_word states) (is_word w && true) r.words (and_from (is_word w) true word refl);
  different = still_different states w r.different new;
  few = (let f : length states ≤ 8 = r.few in omega (arith, length-append states (w ∷ [])));
}

pub states_full : (all left states : List (List ℕ)) (w : List ℕ) (rest : List (List ℕ)) → ReadsStates all left states → left ≡ w ∷ rest → length states ≡ 8 → are_states all ≡ false
unfolding are_states
states_full all left states w rest r e full =
    let n : 8 < length all = rw r.whole (rw e (omega (arith, length-append states (w ∷ rest)))) in
    and_right _ _ (and_left _ _ (lt-leb (length all) 8 n))

pub states_other : (all left states : List (List ℕ)) (w : List ℕ) (rest : List (List ℕ)) → ReadsStates all left states → left ≡ w ∷ rest → is_word w ≡ false → are_states all ≡ false
unfolding are_states
states_other all left states w rest r e word =
    let n : list_all is_word all ≡ false = rw r.whole (rw e (all_append is_word states (w ∷ rest) ∙ and_right _ _ (and_left (is_word w) (list_all is_word rest) word))) in
    and_right _ _ (and_right _ _ (and_left _ _ n))

pub states_twice : (all left states : List (List ℕ)) (w : List ℕ) (rest : List (List ℕ)) → ReadsStates all left states → left ≡ w ∷ rest → is_among w states ≡ true → are_states all ≡ false
unfolding are_states
states_twice all left states w rest r e twice =
    let n : are_different all ≡ false = rw r.whole (rw e (repeated states w rest twice)) in
    and_right (nat_le 2 (length all)) _ (and_right (nat_le (length all) 8) _ (and_right (list_all is_word all) (are_different all) n))

pub states_end : (all left states : List (List ℕ)) → ReadsStates all left states → left ≡ [] → all ≡ states
states_end all left states r e = r.whole ∙ ap (λ l. states ++ l) e ∙ append-nil states

pub states_few : (all left states : List (List ℕ)) → ReadsStates all left states → left ≡ [] → length states < 2 → are_states all ≡ false
unfolding are_states
states_few all left states r e few =
    let n : length all < 2 = rw (states_end all left states r e) few in
    and_left _ _ (lt-leb 2 (length all) n)

pub states_done : (all left states : List (List ℕ)) → ReadsStates all left states → left ≡ [] → 2 ≤ length states → are_states all ≡ true
unfolding are_states
states_done all left states r e enough =
    rw (states_end all left states r e)
    (and_from _ _ (le-leb 2 (length states) enough) (and_from _ _ (le-leb (length states) 8 r.few) (and_from _ _ r.words r.different)))

pub none_of : (all : List (List ℕ)) → are_states all ≡ false → None ≡ (if are_states all then Some all else None)
none_of all e = rw e refl

pub some_of : (all states : List (List ℕ)) → all ≡ states → are_states all ≡ true → Some states ≡ (if are_states all then Some all else None)
some_of all states w e = rw e (ap Some (sym w))
