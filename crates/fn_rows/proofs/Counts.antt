-- Parameters, one after the other: how many have entry bits, and which are pointers.
use Rattle.std.proofs.Common.{◌≡◌, ℕ, zero, suc, ◌+◌, ◌-◌, ◌<◌, ◌≤◌, Bool, true, false, ◌||◌, List, [], ◌∷◌, ◌++◌, cond, length, drop, drop-cons, add-one, get_or, refl, sym, ap, ◌∙◌, append_assoc, add-zero, arith}
use Rattle.std.proofs.lemmas.List.{drop_all}
use Rattle.sc_typed.specs.declared.program.Param.{Param}
use Rattle.sc_world.specs.Tree.{Ty, is_integer, is_pointer, target_or_void}
use Rattle.sc_world.specs.View.{type}
use Rattle.sc_world.specs.Programs.{types_of}
use Rattle.sc_world.specs.Source.{Source}
use Rattle.sc_world.specs.Paths.{Texts}
use Rattle.sc_world.specs.Shows.{entry_params_from}
use Rattle.sc_world.specs.Verdict.{Answers, params_from, out_params_from}
use Rattle.fn_rows.specs.Params.{points, number_if, pointing, counted}
use Rattle.fn_rows.specs.declared.params.PointsTo.{PointsTo}
use Rattle.fn_rows.specs.declared.params.PointsTo.TheVariants as to

scalar : Ty → Bool
scalar t = is_integer t || is_pointer t

-- how many of the first parameters are integers or pointers
pub entries : (most : ℕ) → List Ty → ℕ
entries zero ts = 0
entries (suc more) [] = 0
entries (suc more) (t ∷ ts) = cond (scalar t) (suc (entries more ts)) (entries (suc more) ts)

pub entries_are : (most k : ℕ) (ts : List Ty) → length (entry_params_from most k ts) ≡ entries most ts
unfolding entries scalar
entries_are zero k ts = refl
entries_are (suc more) k [] = refl
entries_are (suc more) k (t ∷ ts) =
    elim (is_integer t || is_pointer t) as (λ b. length (cond b (k ∷ entry_params_from more (k + 1) ts) (entry_params_from (suc more) (k + 1) ts))
    ≡ cond b (suc (entries more ts)) (entries (suc more) ts)) [
      | true ↦ ap suc (entries_are more (k + 1) ts)
      | false ↦ entries_are (suc more) (k + 1) ts
    ]

pub entries_none : (most : ℕ) → entries most [] ≡ 0
unfolding entries
entries_none zero = refl
entries_none (suc more) = refl

-- one parameter more, of those that are left
entries_turn : (n : ℕ) (t : Ty) (ts : List Ty) → n ≤ 3
    → counted n (is_integer t || is_pointer t) + entries (3 - counted n (is_integer t || is_pointer t)) ts ≡ n + entries (3 - n) (t ∷ ts)
unfolding entries scalar
entries_turn zero t ts few =
    elim (is_integer t || is_pointer t) as (λ b. counted 0 b + entries (3 - counted 0 b) ts ≡ 0 + cond b (suc (entries 2 ts)) (entries 3 ts)) [
      | true ↦ omega arith
      | false ↦ refl
    ]
entries_turn (suc zero) t ts few =
    elim (is_integer t || is_pointer t) as (λ b. counted 1 b + entries (3 - counted 1 b) ts ≡ 1 + cond b (suc (entries 1 ts)) (entries 2 ts)) [
      | true ↦ omega arith
      | false ↦ refl
    ]
entries_turn (suc (suc zero)) t ts few =
    elim (is_integer t || is_pointer t) as (λ b. counted 2 b + entries (3 - counted 2 b) ts ≡ 2 + cond b (suc (entries 0 ts)) (entries 1 ts)) [
      | true ↦ omega arith
      | false ↦ refl
    ]
entries_turn (suc (suc (suc zero))) t ts few = refl
entries_turn (suc (suc (suc (suc n)))) t ts few = absurd (omega (arith, few))

pub dropped : {X : Type 0} (xs : List X) (i : ℕ) (x : X) → i < length xs → x ≡ get_or xs i x → drop i xs ≡ x ∷ drop (i + 1) xs
dropped xs i x low is = rw add-one (drop-cons xs i x low ∙ ap (λ y. y ∷ drop (suc i) xs) (sym is))

pub count_turn : (params : List Param) (i : ℕ) (param : Param) (n m : ℕ) → i < length params → param ≡ get_or params i param → n ≤ 3
    → m ≡ counted n (is_integer (type param.ctype) || is_pointer (type param.ctype))
    → m + entries (3 - m) (types_of (drop (i + 1) params)) ≡ n + entries (3 - n) (types_of (drop i params))
count_turn params i param n m low is few more =
    ap (λ k. k + entries (3 - k) (types_of (drop (i + 1) params))) more
    ∙ entries_turn n (type param.ctype) (types_of (drop (i + 1) params)) few
    ∙ ap (λ ps. n + entries (3 - n) (types_of ps)) (sym (dropped params i param low is))

-- none is left
pub count_done : (params : List Param) (i n : ℕ) → length params ≤ i
    → n + entries (3 - n) (types_of (drop i params)) ≡ entries 3 (types_of params)
    → n ≡ length (entry_params_from 3 0 (types_of params))
count_done params i n past left =
    let none : entries (3 - n) (types_of (drop i params)) ≡ 0 =
    ap (λ ps. entries (3 - n) (types_of ps)) (drop_all i params past) ∙ entries_none (3 - n) in
    sym (add-zero n) ∙ ap (λ k. n + k) (sym none) ∙ left ∙ sym (entries_are 3 0 (types_of params))

pub ruleset entry_counts = (entries_are, entries_none)

-- one parameter more
pub pointing_turn : (p : PointsTo) (params : List Param) (i : ℕ) (param : Param) (before after all : List ℕ) → i < length params → param ≡ get_or params i param
    → after ≡ before ++ number_if (points p (type param.ctype)) i
    → before ++ pointing p i (types_of (drop i params)) ≡ all → after ++ pointing p (i + 1) (types_of (drop (i + 1) params)) ≡ all
pointing_turn p params i param before after all low is put so_far =
    ap (λ ns. ns ++ pointing p (i + 1) (types_of (drop (i + 1) params))) put
    ∙ append_assoc before (number_if (points p (type param.ctype)) i) (pointing p (i + 1) (types_of (drop (i + 1) params)))
    ∙ ap (λ ps. before ++ pointing p i (types_of ps)) (sym (dropped params i param low is))
    ∙ so_far

if_prefix : (b : Bool) (k : ℕ) (ns : List ℕ) → cond b (k ∷ ns) ns ≡ number_if b k ++ ns
if_prefix true k ns = refl
if_prefix false k ns = refl

pub pointers_are : (s : Source) (x : Texts) (q : Answers) (k : ℕ) (ts : List Ty) → params_from s x q k ts ≡ pointing to.Anything k ts
pointers_are s x q k [] = refl
pointers_are s x q k (t ∷ ts) =
    ap (λ ns. cond (is_pointer t) (k ∷ ns) ns) (pointers_are s x q (k + 1) ts) ∙ if_prefix (is_pointer t) k (pointing to.Anything (k + 1) ts)

pub outs_are : (s : Source) (x : Texts) (q : Answers) (k : ℕ) (ts : List Ty) → out_params_from s x q k ts ≡ pointing to.Pointer k ts
outs_are s x q k [] = refl
outs_are s x q k (t ∷ ts) =
    ap (λ ns. cond (is_pointer (target_or_void t)) (k ∷ ns) ns) (outs_are s x q (k + 1) ts)
    ∙ if_prefix (is_pointer (target_or_void t)) k (pointing to.Pointer (k + 1) ts)
