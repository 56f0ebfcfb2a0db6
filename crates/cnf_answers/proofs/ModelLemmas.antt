-- The true literals of a list of values.
use Rattle.std.proofs.Common.{◌≡◌, ◌∙◌, ℕ, zero, suc, ◌+◌, ◌<◌, ◌≤◌, Bool, true, false, not, List, [], ◌∷◌, ◌++◌, length, take}
use Rattle.std.proofs.Common.{All, refl, sym, ap, subst, arith}
use Rattle.std.specs.Prelude.{◌&&◌, slice_index_or}
use Rattle.std.proofs.lemmas.List.{append-nil}
use Rattle.std.proofs.lemmas.List.Elements.{All-nil, All-cons}
use Rattle.sat_base.specs.declared.literal.Lit.{Lit}
use Rattle.sat_base.specs.declared.solver.Answer.{Answer}
use Rattle.sat_base.specs.declared.solver.Answer.TheVariants.{NoModel}
use Rattle.sat_base.specs.declared.certificate.Step.{Step}
use Rattle.sat_base.specs.Logic.{at, all_true, satisfied, LitsBelow, Answers}
use Rattle.sat_base.specs.Certificates.{IsCertificate}
use Rattle.sat_cdcl.specs.Certified.{Certifies}
use Rattle.cnf_answers.specs.Models.{true_lits, HasNoModel}

-- one value more
true_lits-more : (k n : ℕ) (values : List Bool) → n < length values
    → true_lits k (take (n + 1) values) ≡ true_lits k (take n values) ++ record { var = k + n; neg = not (slice_index_or values n false) } ∷ []
true_lits-more k n [] small = absurd (omega (arith, small))
true_lits-more k zero (value ∷ values) small =
    let here : k + 0 ≡ k = omega arith in
    rw here refl
true_lits-more k (suc n) (value ∷ values) small =
    let next : suc k + n ≡ k + suc n = omega arith in
    let more : suc n + 1 ≡ suc (n + 1) = omega arith in
    let rest = true_lits-more (suc k) n values (omega (arith, small)) in
    rw (more, ← next) (ap (λ ls. record { var = k; neg = not value } ∷ ls) rest)

pub lit_more : (n : ℕ) (values : List Bool) (neg : Bool) → n < length values → neg ≡ not (at values n)
    → true_lits 0 (take (n + 1) values) ≡ true_lits 0 (take n values) ++ record { var = n; neg = neg } ∷ []
unfolding at
lit_more n values neg small is =
    let here : 0 + n ≡ n = omega arith in
    let one : Lit = record { var = 0 + n; neg = not (slice_index_or values n false) } in
    let other : Lit = record { var = n; neg = neg } in
    let same : one ≡ other = rw (here, is) refl in
    true_lits-more 0 n values small ∙ ap (λ (l : Lit). true_lits 0 (take n values) ++ l ∷ []) same

-- the variables are below their number
below_from : (k n : ℕ) (values : List Bool) → k + length values ≤ n → LitsBelow n (true_lits k values)
below_from k n [] small = All-nil (λ l. l.var < n)
below_from k n (value ∷ values) small =
    All-cons (λ l. l.var < n) (record { var = k; neg = not value }) (true_lits (suc k) values) (omega (arith, small))
    (below_from (suc k) n values (omega (arith, small)))

pub true_lits_below : (n : ℕ) (values : List Bool) → length values ≡ n → LitsBelow n (true_lits 0 values)
true_lits_below n values size = below_from 0 n values (omega (arith, size))

-- no literal is assumed
nothing_assumed : (b : Bool) → (b && true) ≡ b
nothing_assumed true = refl
nothing_assumed false = refl

all_true_of : (f : ℕ → Bool) (clauses : List (List Lit)) (b : Bool) → satisfied f clauses [] ≡ b → all_true f clauses ≡ b
all_true_of f clauses b is = sym (nothing_assumed (all_true f clauses)) ∙ is

no_model : (clauses : List (List Lit)) → ((f : ℕ → Bool) → satisfied f clauses [] ≡ false) → HasNoModel clauses
no_model clauses none f = all_true_of f clauses false (none f)

-- what the answer of a solver says of the clauses that it was given
pub none_of : (answer : Answer) (vars : ℕ) (clauses given : List (List Lit)) (found : List Bool) → answer ≡ NoModel → clauses ≡ given
    → Answers answer vars clauses [] found → HasNoModel given
none_of answer vars clauses given found is same answers =
    let P : Answer → Type 0 = λ a. Answers a vars clauses [] found in
    subst HasNoModel same (no_model clauses (subst P is answers))

pub certificate_of : (answer : Answer) (clauses given : List (List Lit)) (old new : List Step) → answer ≡ NoModel → clauses ≡ given
    → Certifies answer clauses [] old new → IsCertificate given new
certificate_of answer clauses given old new is same certifies =
    let P : Answer → Type 0 = λ a. Certifies a clauses [] old new in
    let Q : List (List Lit) → Type 0 = λ cs. IsCertificate cs new in
    subst Q (append-nil clauses ∙ same) (subst P is certifies)
