-- What is forced is true, and what that says of certificates.

use Rattle.std.proofs.Common.{◌≡◌, ℕ, zero, suc, ◌<◌, Bool, true, false, not, ◌&&◌, ◌||◌, if◌then◌else◌, List, [], ◌∷◌, ◌++◌, map, length, get_or, refl, sym, subst, ap, ◌∙◌, arith}
use Rattle.std.specs.List.{Contains, list_all}
use Rattle.std.proofs.lemmas.Bool.{true≢false, false≢true}
use Rattle.std.proofs.lemmas.List.Elements.{Contains-get_or}
use Rattle.std.proofs.lemmas.List.Folds.{list_any_none, list_all-append}
use Rattle.sat_base.specs.declared.literal.Lit.{Lit}
use Rattle.sat_base.specs.declared.certificate.Step.{Step}
use Rattle.sat_base.specs.declared.certificate.Step.TheVariants.{Add, Drop}
use Rattle.sat_base.specs.Logic.{negation, lit_true, some_true, each_true, all_true}
use Rattle.sat_base.specs.Certificates.{Forced, by_assumption, by_clause, Falsifies, IsRup, TakesOut, IsCertificate}

both : (a b : Bool) → (a && b) ≡ true → (a ≡ true) × (b ≡ true)
both true b h = (refl, h)
both false b h = absurd (false≢true h)

and_of : (a b : Bool) → a ≡ true → b ≡ true → (a && b) ≡ true
and_of true b sure h = h
and_of false b sure h = absurd (false≢true sure)

neither : (a b : Bool) → (a || b) ≡ false → (a ≡ false) × (b ≡ false)
neither true b h = absurd (true≢false h)
neither false b h = (refl, h)

true_unless : (b : Bool) → (b ≡ false → ⊥) → b ≡ true
true_unless true h = refl
true_unless false h = absurd (h refl)

false_unless : (b : Bool) → (b ≡ true → ⊥) → b ≡ false
false_unless true h = absurd (h refl)
false_unless false h = refl

not_both : (b : Bool) → b ≡ true → b ≡ false → ⊥
not_both b sure wrong = true≢false (sym sure ∙ wrong)

sign_false : (neg v : Bool) → (if not neg then not v else v) ≡ true → (if neg then not v else v) ≡ false
sign_false true true h = refl
sign_false true false h = absurd (false≢true h)
sign_false false true h = absurd (false≢true h)
sign_false false false h = refl

sign_true : (neg v : Bool) → (if neg then not v else v) ≡ false → (if not neg then not v else v) ≡ true
sign_true true true h = refl
sign_true true false h = absurd (true≢false h)
sign_true false true h = absurd (true≢false h)
sign_true false false h = refl

lit_false : (f : ℕ → Bool) (l : Lit) → lit_true f (negation l) ≡ true → lit_true f l ≡ false
unfolding lit_true
lit_false f l h = sign_false l.neg (f l.var) h

negation_true : (f : ℕ → Bool) (l : Lit) → lit_true f l ≡ false → lit_true f (negation l) ≡ true
unfolding lit_true
negation_true f l h = sign_true l.neg (f l.var) h

all_at : {A : Type 0} (p : A → Bool) (xs : List A) (x : A) (k : ℕ) → k < length xs → get_or xs k x ≡ x → list_all p xs ≡ true → p x ≡ true
all_at p [] x k inside is all = absurd (omega (arith, inside))
all_at p (y ∷ ys) x zero inside is all = subst (λ z. p z ≡ true) is (both (p y) (list_all p ys) all).0
all_at p (y ∷ ys) x (suc k) inside is all = all_at p ys x k (omega (arith, inside)) is (both (p y) (list_all p ys) all).1

all_in : {A : Type 0} (p : A → Bool) (xs : List A) (x : A) → Contains xs x → list_all p xs ≡ true → p x ≡ true
all_in p xs x h all = all_at p xs x h.0 h.1 h.2 all

none_in : (f : ℕ → Bool) (c : List Lit) → ((q : Lit) → Contains c q → lit_true f q ≡ false) → some_true f c ≡ false
none_in f c h = list_any_none (lit_true f) c (λ i d inside. h (get_or c i d) (Contains-get_or c i d inside))

pub forced_true : (clauses : List (List Lit)) (given : List Lit) (l : Lit) (f : ℕ → Bool) → Forced clauses given l → all_true f clauses ≡ true → each_true f given ≡ true
    → lit_true f l ≡ true
forced_true clauses given _ f (by_assumption l one) all each = all_in (lit_true f) given l one each
forced_true clauses given _ f (by_clause c l one has others) all each =
    true_unless (lit_true f l)
    (λ wrong.
    not_both (some_true f c) (all_in (some_true f) clauses c one all)
    (none_in f c
    (λ q there.
    false_unless (lit_true f q)
    (λ sure.
    not_both (lit_true f q) sure
    (lit_false f q
    (forced_true clauses given (negation q) f (others q there (λ same. not_both (lit_true f l) (ap (lit_true f) (sym same) ∙ sure) wrong)) all each))))))

falsified : (clauses : List (List Lit)) (given : List Lit) (f : ℕ → Bool) → Falsifies clauses given → all_true f clauses ≡ true → each_true f given ≡ true → ⊥
falsified clauses given f h all each =
    not_both (some_true f h.clause) (all_in (some_true f) clauses h.clause h.one all)
    (none_in f h.clause (λ q there. lit_false f q (forced_true clauses given (negation q) f (h.forced q there) all each)))

negations : (f : ℕ → Bool) (c : List Lit) → some_true f c ≡ false → each_true f (map negation c) ≡ true
negations f [] h = refl
negations f (l ∷ ls) h =
    let split = neither (lit_true f l) (some_true f ls) h in
    and_of (lit_true f (negation l)) (each_true f (map negation ls)) (negation_true f l split.0) (negations f ls split.1)

pub rup_holds : (clauses : List (List Lit)) (c : List Lit) (f : ℕ → Bool) → IsRup clauses c → all_true f clauses ≡ true → some_true f c ≡ true
rup_holds clauses c f rup all = true_unless (some_true f c) (λ wrong. falsified clauses (map negation c) f rup all (negations f c wrong))

added : (clauses next : List (List Lit)) (c : List Lit) (f : ℕ → Bool) → IsRup clauses c → next ≡ clauses ++ c ∷ [] → all_true f clauses ≡ true → all_true f next ≡ true
added clauses next c f rup is all =
    ap (all_true f) is
    ∙ list_all-append (some_true f) clauses (c ∷ [])
    ∙ and_of (all_true f clauses) (all_true f (c ∷ [])) all (and_of (some_true f c) true (rup_holds clauses c f rup all) refl)

taken_out : (clauses next : List (List Lit)) (c : List Lit) (f : ℕ → Bool) → TakesOut clauses c next → all_true f clauses ≡ true → all_true f next ≡ true
taken_out clauses next c f t all =
    let parts = both (all_true f t.before) (all_true f (t.out ∷ t.after)) (sym (list_all-append (some_true f) t.before (t.out ∷ t.after)) ∙ ap (all_true f) (sym t.whole) ∙ all) in
    ap (all_true f) t.rest
    ∙ list_all-append (some_true f) t.before t.after
    ∙ and_of (all_true f t.before) (all_true f t.after) parts.0 (both (some_true f t.out) (all_true f t.after) parts.1).1

pub refuted : (clauses : List (List Lit)) (steps : List Step) (f : ℕ → Bool) → IsCertificate clauses steps → all_true f clauses ≡ true → ⊥
refuted clauses [] f h all = h
refuted clauses (Add [] ∷ []) f h all = false≢true (rup_holds clauses [] f h all)
refuted clauses (Add [] ∷ (s ∷ rest)) f h all = refuted h.0 (s ∷ rest) f h.2 (added clauses h.0 [] f h.1.0 h.1.1 all)
refuted clauses (Add (l ∷ ls) ∷ rest) f h all = refuted h.0 rest f h.2 (added clauses h.0 (l ∷ ls) f h.1.0 h.1.1 all)
refuted clauses (Drop c ∷ rest) f h all = refuted h.0 rest f h.2 (taken_out clauses h.0 c f h.1 all)

pub none_certified : (clauses : List (List Lit)) (steps : List Step) (f : ℕ → Bool) → IsCertificate clauses steps → all_true f clauses ≡ false
none_certified clauses steps f h = false_unless (all_true f clauses) (refuted clauses steps f h)
