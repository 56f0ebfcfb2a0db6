-- Each row that a run has of its end, of a parameter, or of a pointer behind a parameter is a candidate.
use Rattle.std.proofs.Common.{◌≡◌, ℕ, suc, ◌+◌, ◌*◌, ◌^◌, ◌<◌, ◌&&◌, ◌||◌, Bool, true, false, List, [], ◌∷◌, length, map, nat_eq, refl, sym, subst, ap, ◌∙◌, arith}
use Rattle.std.proofs.lemmas.Bool.{true≢false, and_parts, eqb-true}
use Rattle.std.proofs.Math.Nat.{pow-suc}
use Rattle.std.proofs.lemmas.List.Elements.{All-contains, All-from_recursion, Contains-append_left, Contains-append_right, Contains-push}
use Rattle.std.proofs.lemmas.List.FromFn.{get_or-range_with_len, length-range_with_len}
use Rattle.std.specs.Prelude.{Contains, if◌then◌else◌}
use Rattle.std.specs.List.{AllByRecursion, flat_map, range_with_len}
use Rattle.sum_rows.specs.declared.row.Row.{Row}
use Rattle.sum_rows.specs.declared.row.State.{State}
use Rattle.sum_rows.specs.declared.row.State.TheVariants as state
use Rattle.sum_rows.specs.declared.row.Gives.{Gives}
use Rattle.sum_rows.specs.declared.row.Gives.TheVariants as gives
use Rattle.sc_world.specs.Tree.{is_integer, is_pointer}
use Rattle.sc_world.specs.World.{digit, is_true}
use Rattle.sc_world.specs.Known.{row, same_state, same_gives, same_row}
use Rattle.sc_world.specs.Paths.{Texts}
use Rattle.sc_world.specs.Shows.{Over, Exits, Params, Outs, says, exits, entry_params, bits_number, given, param_cell, param_object, result, result_cell, kind_of_result, result_kind, fate, out_fate, exit_row}
use Rattle.sc_world.specs.Verdict.{givens, results, nil_alone, exit_kinds, candidates, exit_candidates, param_candidates, out_candidates}

-- Elements of lists.

pub first_is : {X : Type 0} (x : X) (xs : List X) → Contains (x ∷ xs) x
first_is x xs = Contains-append_left (x ∷ []) xs x (Contains-push [] x)

pub behind_first : {X : Type 0} (x y : X) (xs : List X) → Contains xs y → Contains (x ∷ xs) y
behind_first x y xs has = Contains-append_right (x ∷ []) xs y has

pub each_so : {X : Type 0} (P Q : X → Type 0) → ((x : X) → P x → Q x) → (xs : List X) → AllByRecursion P xs → AllByRecursion Q xs
each_so P Q so [] all = tt
each_so P Q so (x ∷ xs) (h, hs) = (so x h, each_so P Q so xs hs)

mapped : {X Y : Type 0} (f : X → Y) (xs : List X) → AllByRecursion (λ x. Contains (map f xs) (f x)) xs
mapped f [] = tt
mapped f (x ∷ xs) = (
  first_is (f x) (map f xs),
  each_so (λ y. Contains (map f xs) (f y)) (λ y. Contains (map f (x ∷ xs)) (f y)) (λ y has. behind_first (f x) (f y) (map f xs) has) xs
      (mapped f xs),
)

pub in_map : {X Y : Type 0} (f : X → Y) (xs : List X) (x : X) → Contains xs x → Contains (map f xs) (f x)
in_map f xs x has = All-contains (λ y. Contains (map f xs) (f y)) xs x (All-from_recursion (λ y. Contains (map f xs) (f y)) xs (mapped f xs)) has

flattened : {X Y : Type 0} (f : X → List Y) (y : Y) (xs : List X) → AllByRecursion (λ x. Contains (f x) y → Contains (flat_map f xs) y) xs
flattened f y [] = tt
flattened f y (x ∷ xs) = (
  λ has. Contains-append_left (f x) (flat_map f xs) y has,
  each_so (λ z. Contains (f z) y → Contains (flat_map f xs) y) (λ z. Contains (f z) y → Contains (flat_map f (x ∷ xs)) y)
      (λ z so has. Contains-append_right (f x) (flat_map f xs) y (so has)) xs (flattened f y xs),
)

pub in_flat : {X Y : Type 0} (f : X → List Y) (xs : List X) (x : X) (y : Y) → Contains xs x → Contains (f x) y → Contains (flat_map f xs) y
in_flat f xs x y has inner =
    All-contains (λ z. Contains (f z) y → Contains (flat_map f xs) y) xs x
    (All-from_recursion (λ z. Contains (f z) y → Contains (flat_map f xs) y) xs (flattened f y xs)) has inner

pub in_range : (n k : ℕ) → k < n → Contains (range_with_len 0 n) k
in_range n k less =
    (k, subst (λ m. k < m) (sym (length-range_with_len 0 n)) less, get_or-range_with_len 0 n k k less ∙ omega arith)

pub in_candidates : (cs : List ℕ) (befores : List State) (rs : List Gives) (afters : List State) (c : ℕ) (b : State) (r : Gives) (a : State)
    → Contains cs c → Contains befores b → Contains rs r → Contains afters a → Contains (candidates cs befores rs afters) (row c b r a)
in_candidates cs befores rs afters c b r a hc hb hr ha =
    in_flat (λ c'. flat_map (λ b'. flat_map (λ r'. map (λ a'. row c' b' r' a') afters) rs) befores) cs c (row c b r a) hc
    (in_flat (λ b'. flat_map (λ r'. map (λ a'. row c b' r' a') afters) rs) befores b (row c b r a) hb
    (in_flat (λ r'. map (λ a'. row c b r' a') afters) rs r (row c b r a) hr (in_map (λ a'. row c b r a') afters a ha)))

-- Rows that are the same are equal.

state_is : (a b : State) → same_state a b ≡ true → a ≡ b
state_is state.Nil state.Nil h = refl
state_is (state.At m) (state.At n) h = ap (λ k. state.At k) (eqb-true m n h)
state_is state.Bad state.Bad h = refl
state_is state.Held state.Held h = refl
state_is state.Escaped state.Escaped h = refl
state_is state.Freed state.Freed h = refl
state_is state.Null state.Null h = refl
state_is state.Fresh state.Fresh h = refl
state_is state.Other state.Other h = refl
state_is state.Same state.Same h = refl
state_is _ _ h = absurd (true≢false (sym h))

gives_is : (a b : Gives) → same_gives a b ≡ true → a ≡ b
gives_is gives.Nothing gives.Nothing h = refl
gives_is gives.Zero gives.Zero h = refl
gives_is gives.NotZero gives.NotZero h = refl
gives_is _ _ h = absurd (true≢false (sym h))

row_is : (a b : Row) → same_row a b ≡ true → a ≡ b
row_is a b h =
    let one = and_parts (nat_eq a.given b.given) (same_state a.before b.before && (same_gives a.result b.result && same_state a.after b.after)) h in
    let two = and_parts (same_state a.before b.before) (same_gives a.result b.result && same_state a.after b.after) one.1 in
    let three = and_parts (same_gives a.result b.result) (same_state a.after b.after) two.1 in
    let given_same = eqb-true a.given b.given one.0 in
    let before_same = state_is a.before b.before two.0 in
    let result_same = gives_is a.result b.result three.0 in
    let after_same = state_is a.after b.after three.1 in
    let same : row a.given a.before a.result a.after ≡ row b.given b.before b.result b.after = cc in
    same

-- What a run gives is among what may be given.

more_bits : (a n : ℕ) (b : Bool) → n < 2 ^ a → 2 * n + digit b < 2 ^ suc a
more_bits a n true less = omega (arith, less, pow-suc 2 a)
more_bits a n false less = omega (arith, less, pow-suc 2 a)

bits_below : (o : Over) (ks : List ℕ) (a n : ℕ) → n < 2 ^ a → bits_number o n ks < 2 ^ (a + length ks)
bits_below o [] a n less = subst (λ m. n < 2 ^ m) (omega arith) less
bits_below o (k ∷ ks) a n less =
    subst (λ m. bits_number o (2 * n + digit (is_true (param_cell o k))) ks < 2 ^ m) (omega arith)
    (bits_below o ks (suc a) (2 * n + digit (is_true (param_cell o k))) (more_bits a n (is_true (param_cell o k)) less))

in_givens : (o : Over) → Contains (givens o.source) (given o)
in_givens o =
    let below : given o < 2 ^ length (entry_params o.source) =
    subst (λ m. given o < 2 ^ m) (omega arith) (bits_below o (entry_params o.source) 0 0 (omega arith)) in
    in_range (2 ^ length (entry_params o.source)) (given o) below

result_among : (b t : Bool) → Contains (if b then gives.Zero ∷ gives.NotZero ∷ [] else gives.Nothing ∷ [])
    (if b then (if t then gives.NotZero else gives.Zero) else gives.Nothing)
result_among true true = behind_first gives.Zero gives.NotZero (gives.NotZero ∷ []) (first_is gives.NotZero [])
result_among true false = first_is gives.Zero (gives.NotZero ∷ [])
result_among false t = first_is gives.Nothing []

in_results : (o : Over) → Contains (results o.source) (result o)
in_results o = result_among (is_integer o.source.result || is_pointer o.source.result) (is_true (result_cell o.ended))

three : List State
three = state.Null ∷ state.Fresh ∷ state.Other ∷ []

kind_among : (null fresh : Bool) → Contains three (if null then state.Null else (if fresh then state.Fresh else state.Other))
unfolding three
kind_among true fresh = first_is state.Null (state.Fresh ∷ state.Other ∷ [])
kind_among false true = behind_first state.Null state.Fresh (state.Fresh ∷ state.Other ∷ []) (first_is state.Fresh (state.Other ∷ []))
kind_among false false =
    behind_first state.Null state.Other (state.Fresh ∷ state.Other ∷ [])
    (behind_first state.Fresh state.Other (state.Other ∷ []) (first_is state.Other []))

kind_if : (b : Bool) (k : State) → Contains three k → Contains (if b then state.Null ∷ state.Fresh ∷ state.Other ∷ [] else nil_alone) (if b then k else state.Nil)
unfolding three
kind_if true k has = has
kind_if false k has = first_is state.Nil []

in_kinds : (o : Over) → Contains (exit_kinds o.source) (result_kind o)
in_kinds o = kind_if (is_pointer o.source.result) (kind_of_result o (result_cell o.ended)) (kind_among _ _)

fate_among : (freed escaped : Bool)
    → Contains (state.Held ∷ state.Escaped ∷ state.Freed ∷ []) (if freed then state.Freed else (if escaped then state.Escaped else state.Held))
fate_among true escaped =
    behind_first state.Held state.Freed (state.Escaped ∷ state.Freed ∷ [])
    (behind_first state.Escaped state.Freed (state.Freed ∷ []) (first_is state.Freed []))
fate_among false true = behind_first state.Held state.Escaped (state.Escaped ∷ state.Freed ∷ []) (first_is state.Escaped (state.Freed ∷ []))
fate_among false false = first_is state.Held (state.Escaped ∷ state.Freed ∷ [])

among_three : (null fresh : Bool)
    → Contains (state.Null ∷ state.Fresh ∷ state.Other ∷ []) (if null then state.Null else (if fresh then state.Fresh else state.Other))
unfolding three
among_three null fresh = kind_among null fresh

four : List State
four = state.Null ∷ state.Fresh ∷ state.Other ∷ state.Same ∷ []

cell_among : (null fresh : Bool) → Contains four (if null then state.Null else (if fresh then state.Fresh else state.Other))
unfolding four
cell_among null fresh =
    Contains-append_left (state.Null ∷ state.Fresh ∷ state.Other ∷ []) (state.Same ∷ [])
    (if null then state.Null else (if fresh then state.Fresh else state.Other)) (among_three null fresh)

out_if : (b : Bool) (k : State) → Contains four k → Contains four (if b then state.Same else k)
unfolding four
out_if true k has =
    Contains-append_right (state.Null ∷ state.Fresh ∷ state.Other ∷ []) (state.Same ∷ []) state.Same (first_is state.Same [])
out_if false k has = has

-- The rows.

exit_among : (o : Over) → Contains (exit_candidates o.source) (exit_row o)
exit_among o =
    in_candidates (givens o.source) nil_alone (results o.source) (exit_kinds o.source) (given o) state.Nil (result o) (result_kind o)
    (in_givens o) (first_is state.Nil []) (in_results o) (in_kinds o)

param_among : (o : Over) (at : ℕ) → Contains (param_candidates o.source) (row (given o) state.Nil (result o) (fate o at))
param_among o at =
    in_candidates (givens o.source) nil_alone (results o.source) (state.Held ∷ state.Escaped ∷ state.Freed ∷ []) (given o) state.Nil
    (result o) (fate o at) (in_givens o) (first_is state.Nil []) (in_results o) (fate_among _ _)

out_among : (o : Over) (at : ℕ) → Contains (out_candidates o.source) (row (given o) state.Nil (result o) (out_fate o at))
unfolding four
out_among o at =
    in_candidates (givens o.source) nil_alone (results o.source) four (given o) state.Nil (result o) (out_fate o at) (in_givens o)
    (first_is state.Nil []) (in_results o) (out_if _ _ (cell_among _ _))

pub exit_said : (x : Texts) (o : Over) (r : Row) → says x o (Exits r) ≡ true → Contains (exit_candidates o.source) r
exit_said x o r h =
    subst (Contains (exit_candidates o.source)) (sym (row_is r (exit_row o) (and_parts (exits o) (same_row r (exit_row o)) h).1)) (exit_among o)

pub param_said : (x : Texts) (o : Over) (n : ℕ) (r : Row) → says x o (Params n r) ≡ true → Contains (param_candidates o.source) r
param_said x o n r h =
    let mine = row (given o) state.Nil (result o) (fate o (param_object o n)) in
    let has = (and_parts (exits o) (is_true (param_cell o n) && same_row r mine) h).1 in
    subst (Contains (param_candidates o.source)) (sym (row_is r mine (and_parts (is_true (param_cell o n)) (same_row r mine) has).1))
    (param_among o (param_object o n))

pub out_said : (x : Texts) (o : Over) (n : ℕ) (r : Row) → says x o (Outs n r) ≡ true → Contains (out_candidates o.source) r
out_said x o n r h =
    let mine = row (given o) state.Nil (result o) (out_fate o (param_object o n)) in
    let has = (and_parts (exits o) (is_true (param_cell o n) && same_row r mine) h).1 in
    subst (Contains (out_candidates o.source)) (sym (row_is r mine (and_parts (is_true (param_cell o n)) (same_row r mine) has).1))
    (out_among o (param_object o n))
