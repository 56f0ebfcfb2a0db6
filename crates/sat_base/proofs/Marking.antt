-- Values given to variables one by one, and what they say of literals.

use Rattle.std.proofs.Common.{◌≡◌, ℕ, ◌+◌, ◌<◌, ◌≢◌, Bool, true, false, not, ◌||◌, ◌&&◌, cond, if◌then◌else◌, List, [], ◌∷◌, ◌++◌, length, set, get_or, get_or-set_same, get_or-set_other, Option, None, Some, is_none, refl, sym, subst, ap, ◌∙◌, ⊎_elim, arith}
use Rattle.std.proofs.lemmas.Bool.{cases_eq, true_from_ne_false, false≢true, true≢false}
use Rattle.std.proofs.lemmas.List.Folds.{list_any-append, list_all-append, list_all_at}
use Rattle.std.proofs.lemmas.List.Sums.{sum_by-set}
use Rattle.std.specs.List.{Contains}
use Rattle.sat_base.specs.declared.literal.Lit.{Lit}
use Rattle.sat_base.specs.Logic.{lit_true, some_true, all_true}
use Rattle.sat_base.specs.Marks.{mark, Extends, signed, lit_mark, open_count}

pub mark-set_same : (ms : List (Option Bool)) (x : ℕ) (o : Option Bool) → x < length ms → mark (set ms x o) x ≡ o
unfolding mark
mark-set_same ms x o inside = get_or-set_same ms x o None inside

pub mark-set_other : (ms : List (Option Bool)) (x y : ℕ) (o : Option Bool) → y ≢ x → mark (set ms x o) y ≡ mark ms y
unfolding mark
mark-set_other ms x y o other = get_or-set_other ms x y o None other

-- an assignment that has the values so far and one more
pub Extends-set : (f : ℕ → Bool) (ms : List (Option Bool)) (x : ℕ) (b : Bool)
    → x < length ms → Extends f ms → f x ≡ b → Extends f (set ms x (Some b))
Extends-set f ms x b inside ext has var value is =
    ⊎_elim
    (λ same.
    let here : mark (set ms x (Some b)) var ≡ Some b = subst (λ y. mark (set ms x (Some b)) y ≡ Some b) (sym same) (mark-set_same ms x (Some b) inside) in
    let equal : b ≡ value = cc in ap f same ∙ has ∙ equal)
    (λ other. ext var value (sym (mark-set_other ms x var (Some b) other) ∙ is))
    (cases_eq var x)

pub Extends_before_set : (f : ℕ → Bool) (ms : List (Option Bool)) (x : ℕ) (b : Bool)
    → mark ms x ≡ None → Extends f (set ms x (Some b)) → Extends f ms
Extends_before_set f ms x b empty ext var value is =
    ⊎_elim
    (λ same. let here : mark ms x ≡ Some value = subst (λ y. mark ms y ≡ Some value) same is in cc)
    (λ other. ext var value (mark-set_other ms x var (Some b) other ∙ is))
    (cases_eq var x)

pub value_from_Extends : (f : ℕ → Bool) (ms : List (Option Bool)) (x : ℕ) (b : Bool)
    → x < length ms → Extends f (set ms x (Some b)) → f x ≡ b
value_from_Extends f ms x b inside ext = ext x b (mark-set_same ms x (Some b) inside)

-- one variable fewer is open
pub open_count-set : (ms : List (Option Bool)) (x : ℕ) (b : Bool)
    → x < length ms → mark ms x ≡ None → open_count (set ms x (Some b)) + 1 ≡ open_count ms
unfolding mark
open_count-set ms x b inside empty =
    let weight : Option Bool → ℕ = λ m. cond (is_none m) 1 0 in
    let moved : open_count (set ms x (Some b)) + weight (get_or ms x None) ≡ open_count ms + 0 = sum_by-set weight ms x (Some b) None inside in
    let here : weight (get_or ms x None) ≡ 1 = ap weight empty in
    omega (arith, moved, here)

signed_is : (neg : Bool) (o : Option Bool) (b x : Bool)
    → ((v : Bool) → o ≡ Some v → x ≡ v) → signed neg o ≡ Some b → (if neg then not x else x) ≡ b
signed_is neg None b x has is = cc
signed_is true (Some v) b x has is = let equal : not v ≡ b = cc in ap not (has v refl) ∙ equal
signed_is false (Some v) b x has is = let equal : v ≡ b = cc in has v refl ∙ equal

-- a literal that has a value has it in each assignment with these values
pub lit_true-marked : (f : ℕ → Bool) (ms : List (Option Bool)) (l : Lit) (b : Bool)
    → Extends f ms → lit_mark ms l ≡ Some b → lit_true f l ≡ b
unfolding lit_true
lit_true-marked f ms l b ext is = signed_is l.neg (mark ms l.var) b (f l.var) (λ v has. ext l.var v has) is

open_if_signed : (neg : Bool) (o : Option Bool) → signed neg o ≡ None → o ≡ None
open_if_signed neg None is = refl
open_if_signed neg (Some v) is = cc

pub mark_from_lit_mark : (ms : List (Option Bool)) (l : Lit) → lit_mark ms l ≡ None → mark ms l.var ≡ None
mark_from_lit_mark ms l is = open_if_signed l.neg (mark ms l.var) is

value_of_true : (neg x : Bool) → (if neg then not x else x) ≡ true → x ≡ not neg
value_of_true true true is = absurd (false≢true is)
value_of_true true false is = refl
value_of_true false true is = refl
value_of_true false false is = absurd (false≢true is)

true_of_value : (neg x : Bool) → x ≡ not neg → (if neg then not x else x) ≡ true
true_of_value true true is = absurd (true≢false is)
true_of_value true false is = refl
true_of_value false true is = refl
true_of_value false false is = absurd (false≢true is)

pub value_from_lit_true : (f : ℕ → Bool) (l : Lit) → lit_true f l ≡ true → f l.var ≡ not l.neg
unfolding lit_true
value_from_lit_true f l is = value_of_true l.neg (f l.var) is

pub lit_true_from_value : (f : ℕ → Bool) (l : Lit) → f l.var ≡ not l.neg → lit_true f l ≡ true
unfolding lit_true
lit_true_from_value f l is = true_of_value l.neg (f l.var) is

pub or-false : (b : Bool) → (b || false) ≡ b
or-false true = refl
or-false false = refl

pub some_true-push : (f : ℕ → Bool) (front : List Lit) (l : Lit) → some_true f (front ++ l ∷ []) ≡ (some_true f front || lit_true f l)
some_true-push f front l = list_any-append (lit_true f) front (l ∷ []) ∙ ap (λ b. some_true f front || b) (or-false (lit_true f l))

pub and-true : (b : Bool) → (b && true) ≡ b
and-true true = refl
and-true false = refl

pub all_true-push : (f : ℕ → Bool) (front : List (List Lit)) (c : List Lit) → all_true f (front ++ c ∷ []) ≡ (all_true f front && some_true f c)
all_true-push f front c = list_all-append (some_true f) front (c ∷ []) ∙ ap (λ b. all_true f front && b) (and-true (some_true f c))

-- an assignment that satisfies all clauses satisfies each
pub some_true_from_all : (f : ℕ → Bool) (cs : List (List Lit)) (c : List Lit) → all_true f cs ≡ true → Contains cs c → some_true f c ≡ true
some_true_from_all f cs c all has =
    true_from_ne_false (some_true f c)
    (λ fails. false≢true (sym (list_all_at (some_true f) cs has.0 c has.1 (ap (some_true f) has.2 ∙ fails)) ∙ all))
