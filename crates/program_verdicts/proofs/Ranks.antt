-- A rank of functions that falls along each kept edge: first by how many functions a function reaches, then by its
-- place in the program.
use Rattle.std.proofs.Common.{◌≡◌, ℕ, ◌+◌, ◌-◌, ◌*◌, ◌<◌, ◌≤◌, ◌&&◌, not, cond, Bool, true, false, List, [], ◌∷◌, length, nat_eq, leb, refl, sym, subst, ⊎_elim, inl, inr, arith}
use Rattle.std.proofs.lemmas.Bool.{cases_lt, and_parts, not-true, leb-false, eq-eqb, eqb-true, true≢false, or_cases}
use Rattle.std.proofs.lemmas.List.{get_or_past}
use Rattle.std.proofs.lemmas.Map.Views.{Contains-from_any}
use Rattle.std.proofs.lemmas.List.Folds.{list_any_at}
use Rattle.std.proofs.lemmas.List.FromFn.{get_or-range_with_len, length-range_with_len}
use Rattle.std.proofs.Math.Nat.{mul-le-mul_right}
use Rattle.std.specs.Prelude.{◌↔◌}
use Rattle.std.specs.List.{list_any}
use Rattle.plan_core.specs.Graph.{callees, calls, Walk, one, more, Reaches, reaches, is_cut, functions, kept_callees}
use Rattle.program_verdicts.proofs.Chains.{each_kept, Falls}

-- that the test of reaching is reaching
abbrev pub Told : List (List ℕ) → Type 0
Told rows = (f g : ℕ) → (reaches rows f g ≡ true) ↔ Reaches rows f g

walk_join : (rows : List (List ℕ)) (f g h : ℕ) → Walk rows f g → Walk rows g h → Walk rows f h
walk_join rows f _ _ before (one g h has) = more f g h before has
walk_join rows f _ _ before (more g m h walk has) = more f m h (walk_join rows f g m before walk) has

reach_join : (rows : List (List ℕ)) (f g h : ℕ) → Reaches rows f g → Reaches rows g h → Reaches rows f h
reach_join rows f g h there on =
    ⊎_elim
    (λ (e : f ≡ g). subst (λ x. Reaches rows x h) (sym e) on)
    (λ walk. ⊎_elim (λ (e : g ≡ h). inr (subst (λ x. Walk rows f x) e walk)) (λ further. inr (walk_join rows f g h walk further)) on)
    there

joined : (rows : List (List ℕ)) → Told rows → (f g h : ℕ) → reaches rows f g ≡ true → reaches rows g h ≡ true → reaches rows f h ≡ true
joined rows told f g h there on = (told f h).1 (reach_join rows f g h ((told f g).0 there) ((told g h).0 on))

itself : (rows : List (List ℕ)) → Told rows → (f : ℕ) → reaches rows f f ≡ true
itself rows told f = (told f f).1 (inl refl)

-- Counts.

step_le : (a b : Bool) (m n : ℕ) → (a ≡ true → b ≡ true) → m ≤ n → cond a 1 0 + m ≤ cond b 1 0 + n
step_le true true m n so le = omega (arith, le)
step_le false true m n so le = omega (arith, le)
step_le false false m n so le = omega (arith, le)
step_le true false m n so le = absurd (true≢false (sym (so refl)))

step_lt : (a b : Bool) (m n : ℕ) → (a ≡ true → b ≡ true) → m < n → cond a 1 0 + m < cond b 1 0 + n
step_lt true true m n so less = omega (arith, less)
step_lt false true m n so less = omega (arith, less)
step_lt false false m n so less = omega (arith, less)
step_lt true false m n so less = absurd (true≢false (sym (so refl)))

here_lt : (a b : Bool) (m n : ℕ) → a ≡ false → b ≡ true → m ≤ n → cond a 1 0 + m < cond b 1 0 + n
here_lt false true m n lacks has_it le = omega (arith, le)
here_lt true b m n lacks has_it le = absurd (true≢false lacks)
here_lt false false m n lacks has_it le = absurd (true≢false (sym has_it))

-- how many elements pass
pub count : (ℕ → Bool) → List ℕ → ℕ
count p [] = 0
count p (x ∷ xs) = cond (p x) 1 0 + count p xs

cond_le : (b : Bool) → cond b 1 0 ≤ 1
cond_le true = omega arith
cond_le false = omega arith

count-le-length : (p : ℕ → Bool) (xs : List ℕ) → count p xs ≤ length xs
unfolding count
count-le-length p [] = omega arith
count-le-length p (x ∷ xs) = omega (arith, cond_le (p x), count-le-length p xs)

count_le : (p q : ℕ → Bool) → ((x : ℕ) → p x ≡ true → q x ≡ true) → (xs : List ℕ) → count p xs ≤ count q xs
unfolding count
count_le p q so [] = omega arith
count_le p q so (x ∷ xs) = step_le (p x) (q x) (count p xs) (count q xs) (so x) (count_le p q so xs)

-- one that passes the second test alone makes the count greater
count_lt : (p q : ℕ → Bool) → ((x : ℕ) → p x ≡ true → q x ≡ true) → (y : ℕ) → p y ≡ false → q y ≡ true
    → (xs : List ℕ) → list_any (nat_eq y) xs ≡ true → count p xs < count q xs
unfolding count
count_lt p q so y lacks has_it [] among = absurd (true≢false (sym among))
count_lt p q so y lacks has_it (x ∷ xs) among =
    ⊎_elim
    (λ (here : nat_eq y x ≡ true).
    let e : y ≡ x = eqb-true y x here in
    here_lt (p x) (q x) (count p xs) (count q xs) (subst (λ z. p z ≡ false) e lacks) (subst (λ z. q z ≡ true) e has_it) (count_le p q so xs))
    (λ (behind : list_any (nat_eq y) xs ≡ true).
    step_lt (p x) (q x) (count p xs) (count q xs) (so x) (count_lt p q so y lacks has_it xs behind))
    (or_cases (nat_eq y x) (list_any (nat_eq y) xs) among)

-- The rank.

reached_by : List (List ℕ) → ℕ → ℕ
reached_by rows f = count (reaches rows f) (functions rows)

pub rank : List (List ℕ) → ℕ → ℕ
rank rows f = reached_by rows f * length rows + (length rows - f)

pub rank_below : (rows : List (List ℕ)) (f : ℕ) → rank rows f < length rows * length rows + length rows + 1
unfolding rank reached_by
rank_below rows f =
    let few : count (reaches rows f) (functions rows) ≤ length rows =
    subst (λ n. count (reaches rows f) (functions rows) ≤ n) (length-range_with_len 0 (length rows))
    (count-le-length (reaches rows f) (functions rows)) in
    omega (arith, mul-le-mul_right (length rows) few)

is_function : (rows : List (List ℕ)) (f : ℕ) → f < length rows → list_any (nat_eq f) (functions rows) ≡ true
is_function rows f inside =
    list_any_at (nat_eq f) (functions rows) f f
    (subst (λ n. f < n) (sym (length-range_with_len 0 (length rows))) inside)
    (eq-eqb f _ (omega (arith, get_or-range_with_len 0 (length rows) f f inside)))

same_count : (rows : List (List ℕ)) → Told rows → (f g : ℕ) → reaches rows f g ≡ true → reached_by rows g ≤ reached_by rows f
unfolding reached_by
same_count rows told f g there = count_le (reaches rows g) (reaches rows f) (λ x on. joined rows told f g x there on) (functions rows)

fewer : (rows : List (List ℕ)) → Told rows → (f g : ℕ) → f < length rows → reaches rows f g ≡ true → reaches rows g f ≡ false
    → reached_by rows g < reached_by rows f
unfolding reached_by
fewer rows told f g inside there no_way =
    count_lt (reaches rows g) (reaches rows f) (λ x on. joined rows told f g x there on) f no_way (itself rows told f)
    (functions rows) (is_function rows f inside)

by_count : (n a b f g : ℕ) → f < n → a < b → a * n + (n - g) < b * n + (n - f)
by_count n a b f g inside less =
    let le : (a + 1) * n ≤ b * n = mul-le-mul_right n (omega (arith, less)) in omega (arith, le)

by_place : (n a b f g : ℕ) → f < n → f < g → a ≤ b → a * n + (n - g) < b * n + (n - f)
by_place n a b f g inside forward few =
    let le : a * n ≤ b * n = mul-le-mul_right n few in omega (arith, le)

falls_where : (rows : List (List ℕ)) → Told rows → (f g : ℕ) → f < length rows → reaches rows f g ≡ true
    → (back : Bool) → reaches rows g f ≡ back → back && leb g f ≡ false → rank rows g < rank rows f
unfolding rank
falls_where rows told f g inside there true back uncut =
    by_place (length rows) (reached_by rows g) (reached_by rows f) f g inside (leb-false g f uncut) (same_count rows told f g there)
falls_where rows told f g inside there false back uncut =
    by_count (length rows) (reached_by rows g) (reached_by rows f) f g inside (fewer rows told f g inside there back)

call_reaches : (rows : List (List ℕ)) → Told rows → (f g : ℕ) → calls rows f g ≡ true → reaches rows f g ≡ true
call_reaches rows told f g does = (told f g).1 (inr (one f g (Contains-from_any eqb-true g (callees rows f) does)))

caller_inside : (rows : List (List ℕ)) (f g : ℕ) → calls rows f g ≡ true → f < length rows
caller_inside rows f g does =
    ⊎_elim
    (λ inside. inside)
    (λ past. absurd (true≢false (sym (subst (λ gs. list_any (nat_eq g) gs ≡ true) (get_or_past rows f [] past) does))))
    (cases_lt f (length rows))

falls_at : (rows : List (List ℕ)) → Told rows → (f g : ℕ) → calls rows f g && not (is_cut rows f g) ≡ true → rank rows g < rank rows f
falls_at rows told f g is_kept =
    let parts = and_parts (calls rows f g) (not (is_cut rows f g)) is_kept in
    falls_where rows told f g (caller_inside rows f g parts.0) (call_reaches rows told f g parts.0) (reaches rows g f) refl
    (not-true (is_cut rows f g) parts.1)

pub falls : (rows : List (List ℕ)) → Told rows → Falls (kept_callees rows) (rank rows)
unfolding Falls
falls rows told f =
    each_kept (λ g. rank rows g < rank rows f) (λ g. calls rows f g && not (is_cut rows f g)) (falls_at rows told f) (functions rows)
