-- The parameters of the entry bits, with one parameter more.
use Rattle.std.proofs.Common.{◌≡◌, ℕ, zero, suc, ◌+◌, ◌<◌, ◌≤◌, Bool, true, false, List, [], ◌∷◌, ◌++◌, cond, ◌&&◌, length, filter, take, get_or, ltb, refl, sym, ap, ◌∙◌, append-nil, append_assoc, length-append, arith}
use Rattle.std.proofs.lemmas.Bool.{cond-true, cond-false, ltb-true, ltb-false}
use Rattle.std.proofs.lemmas.List.Elements.{filter_more}
use Rattle.sc_typed.specs.declared.program.Param.{Param}
use Rattle.sc_typed.specs.Types.{is_scalar}
use Rattle.std.specs.List.{flat_map}
use Rattle.std.proofs.lemmas.Grind.{flat_map-append}
use Rattle.sc_typed.specs.declared.program.Program.{Program}
use Rattle.report_text.specs.Functions.{entry_params, entry_if, spaced_name}

none : List Param
none = []

take_none : (n : ℕ) → take n none ≡ none
unfolding none
take_none zero = refl
take_none (suc n) = refl

-- a list that is shorter than n takes one item more
take_one_more : (n : ℕ) (xs : List Param) (x : Param) → length (take n xs) < n → take n (xs ++ x ∷ []) ≡ take n xs ++ x ∷ []
unfolding none
take_one_more zero xs x short = absurd (omega (arith, short))
take_one_more (suc n) [] x short = ap (λ ys. x ∷ ys) (take_none n)
take_one_more (suc n) (y ∷ ys) x short = ap (λ zs. y ∷ zs) (take_one_more n ys x (omega (arith, short)))

-- one that is not takes none
take_no_more : (n : ℕ) (xs : List Param) (x : Param) → n ≤ length (take n xs) → take n (xs ++ x ∷ []) ≡ take n xs
take_no_more zero xs x full = refl
take_no_more (suc n) [] x full = absurd (omega (arith, full))
take_no_more (suc n) (y ∷ ys) x full = ap (λ zs. y ∷ zs) (take_no_more n ys x (omega (arith, full)))

abbrev scalars : List Param → List Param
scalars params = filter (λ (q : Param). is_scalar q.ctype) params

with_scalar : (params : List Param) (i : ℕ) (d : Param) → i < length params → is_scalar (get_or params i d).ctype ≡ true
    → scalars (take (i + 1) params) ≡ scalars (take i params) ++ get_or params i d ∷ []
with_scalar params i d inside scalar =
    filter_more (λ (q : Param). is_scalar q.ctype) params i d inside
    ∙ ap (λ ys. scalars (take i params) ++ ys) (cond-true (is_scalar (get_or params i d).ctype) _ _ scalar)

pub entry_no_more : (params : List Param) (i : ℕ) (d : Param) → i < length params → is_scalar (get_or params i d).ctype ≡ false
    → entry_params (take (i + 1) params) ≡ entry_params (take i params)
entry_no_more params i d inside other =
    ap (take 3) (filter_more (λ (q : Param). is_scalar q.ctype) params i d inside
    ∙ ap (λ ys. scalars (take i params) ++ ys) (cond-false (is_scalar (get_or params i d).ctype) _ _ other)
    ∙ append-nil (scalars (take i params)))

pub entry_one_more : (params : List Param) (i : ℕ) (d : Param) → i < length params → length (entry_params (take i params)) < 3
    → is_scalar (get_or params i d).ctype ≡ true
    → entry_params (take (i + 1) params) ≡ entry_params (take i params) ++ get_or params i d ∷ []
entry_one_more params i d inside few scalar =
    ap (take 3) (with_scalar params i d inside scalar) ∙ take_one_more 3 (scalars (take i params)) (get_or params i d) few

full_by : (params : List Param) (i : ℕ) (d : Param) → i < length params → 3 ≤ length (entry_params (take i params))
    → (b : Bool) → is_scalar (get_or params i d).ctype ≡ b → entry_params (take (i + 1) params) ≡ entry_params (take i params)
full_by params i d inside full true scalar =
    ap (take 3) (with_scalar params i d inside scalar) ∙ take_no_more 3 (scalars (take i params)) (get_or params i d) full
full_by params i d inside full false other = entry_no_more params i d inside other

pub entry_full : (params : List Param) (i : ℕ) (d : Param) → i < length params → 3 ≤ length (entry_params (take i params))
    → entry_params (take (i + 1) params) ≡ entry_params (take i params)
entry_full params i d inside full = full_by params i d inside full (is_scalar (get_or params i d).ctype) refl

-- a parameter more is listed if fewer than three are and it is an integer or a pointer
more_by : (params : List Param) (i : ℕ) (d : Param) → i < length params → (n : ℕ) → n ≡ length (entry_params (take i params))
    → (b c : Bool) → ltb n 3 ≡ b → is_scalar (get_or params i d).ctype ≡ c
    → entry_params (take (i + 1) params) ≡ entry_params (take i params) ++ cond (b && c) (get_or params i d ∷ []) []
more_by params i d inside n counts true true few scalar =
    entry_one_more params i d inside (omega (arith, ltb-true n 3 few, counts)) scalar
more_by params i d inside n counts true false few other =
    entry_no_more params i d inside other ∙ sym (append-nil (entry_params (take i params)))
more_by params i d inside n counts false c full is =
    entry_full params i d inside (omega (arith, ltb-false n 3 full, counts)) ∙ sym (append-nil (entry_params (take i params)))

pub entry_more : (params : List Param) (i : ℕ) (d : Param) → i < length params → (n : ℕ) → n ≡ length (entry_params (take i params))
    → entry_params (take (i + 1) params) ≡ entry_params (take i params) ++ entry_if n (get_or params i d)
entry_more params i d inside n counts = more_by params i d inside n counts _ _ refl refl

-- the names so far, and one name more
pub names_more : (p : Program) (params : List Param) (i : ℕ) (x : Param) (n m : ℕ) (before now after : List ℕ) → i < length params
    → x ≡ get_or params i x → (now ≡ before ++ flat_map (spaced_name p) (entry_params (take i params))) × (n ≡ length (entry_params (take i params)))
    → after ≡ now ++ flat_map (spaced_name p) (entry_if n x) → m ≡ n + length (entry_if n x)
    → (after ≡ before ++ flat_map (spaced_name p) (entry_params (take (i + 1) params))) × (m ≡ length (entry_params (take (i + 1) params)))
names_more p params i x n m before now after inside is so_far put counted =
    let more = entry_more params i x inside n so_far.1 ∙ ap (λ y. entry_params (take i params) ++ entry_if n y) (sym is) in
    let shown = entry_params (take i params) in (
      put ∙ ap (λ t. t ++ flat_map (spaced_name p) (entry_if n x)) so_far.0
          ∙ append_assoc before (flat_map (spaced_name p) shown) (flat_map (spaced_name p) (entry_if n x))
          ∙ ap (λ t. before ++ t) (sym (flat_map-append (spaced_name p) shown (entry_if n x)) ∙ ap (flat_map (spaced_name p)) (sym more)),
      counted ∙ ap (λ k. k + length (entry_if n x)) so_far.1 ∙ sym (length-append shown (entry_if n x)) ∙ ap length (sym more),
    )
