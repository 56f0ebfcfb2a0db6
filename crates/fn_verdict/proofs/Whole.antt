-- All reports.
use Rattle.std.proofs.Common.{◌≡◌, ℕ, List, [], ◌∷◌, ◌++◌, refl, sym, ap, ◌∙◌, append_assoc}
use Rattle.std.specs.List.{flat_map}
use Rattle.sum_rows.specs.declared.report.Report.{Report}
use Rattle.sum_rows.specs.declared.report.Verdict.TheVariants as verdict
use Rattle.sum_rows.specs.declared.row.Summary.{Summary}
use Rattle.sc_world.specs.Source.{Source}
use Rattle.sc_world.specs.Paths.{Texts}
use Rattle.sc_world.specs.Verdict as spec
use Rattle.sc_world.specs.Verdict.{Answers}
use Rattle.sum_rows.specs.declared.row.State.{State}
use Rattle.sum_rows.specs.declared.row.Gives.{Gives}
use Rattle.fn_verdict.specs.declared.pairs.Pair.{Pair}
use Rattle.fn_verdict.specs.Pairs.{pairs, ambiguous}
use Rattle.fn_verdict.specs.Inner.{inners, inner}
use Rattle.fn_verdict.specs.Leaks.{leak, places_of_calls}
use Rattle.fn_verdict.proofs.TwoStates.{ambiguous_is}
use Rattle.fn_verdict.proofs.Same.{endings_are, calls_are}

flat_same : {X Y : Type 0} (f g : X → List Y) → ((x : X) → f x ≡ g x) → (xs : List X) → flat_map f xs ≡ flat_map g xs
flat_same f g same [] = refl
flat_same f g same (x ∷ xs) = ap (λ ys. ys ++ flat_map f xs) (same x) ∙ ap (λ ys. g x ++ ys) (flat_same f g same xs)

in_order : (d a i l : List Report) → [] ++ d ++ a ++ i ++ l ≡ d ++ (a ++ (i ++ l))
in_order d a i l = append_assoc (d ++ a) i l ∙ append_assoc d a (i ++ l)

reports_are : (s : Source) (x : Texts) (q : Answers) (ats : List ℕ) (ps : List Pair) (f1 f2 f3 f4 : List Report)
    → ats ≡ spec.touched s x q → ps ≡ pairs (spec.givens s) (spec.machine_states s) (spec.results s)
    → f1 ≡ [] ++ flat_map (spec.double s x q) ats → f2 ≡ f1 ++ flat_map (ambiguous x.layout q ps) ats
    → f3 ≡ f2 ++ inners x q → f4 ≡ f3 ++ flat_map (leak q) (places_of_calls [] x.layout.sites)
    → f4 ≡ spec.reports s x q
reports_are s x q ats ps f1 f2 f3 f4 touched paired is1 is2 is3 is4 =
    let a : flat_map (ambiguous x.layout q ps) ats ≡ flat_map (spec.ambiguous s x q) ats =
    ap (λ qs. flat_map (ambiguous x.layout q qs) ats) paired ∙ flat_same _ _ (ambiguous_is s x q) ats in
    let i : inners x q ≡ flat_map (spec.inner s x q) (spec.texts_from s x q [] (spec.numbers s x q)) =
    ap (flat_map (inner q)) (endings_are s x q [] (spec.numbers s x q)) in
    let l : flat_map (leak q) (places_of_calls [] x.layout.sites) ≡ flat_map (spec.leak s x q) (spec.places_of_calls s x q [] x.layout.sites) =
    ap (flat_map (leak q)) (calls_are s x q [] x.layout.sites) in
    is4
    ∙ ap (λ ys. ys ++ flat_map (leak q) (places_of_calls [] x.layout.sites))
    (is3 ∙ ap (λ ys. ys ++ inners x q) (is2 ∙ ap (λ ys. ys ++ flat_map (ambiguous x.layout q ps) ats) is1))
    ∙ in_order (flat_map (spec.double s x q) ats) (flat_map (ambiguous x.layout q ps) ats) (inners x q) (flat_map (leak q) (places_of_calls [] x.layout.sites))
    ∙ ap (λ ys. flat_map (spec.double s x q) ats ++ ys)
    (ap (λ ys. ys ++ (inners x q ++ flat_map (leak q) (places_of_calls [] x.layout.sites))) a
    ∙ ap (λ ys. flat_map (spec.ambiguous s x q) ats ++ ys)
    (ap (λ ys. ys ++ flat_map (leak q) (places_of_calls [] x.layout.sites)) i
    ∙ ap (λ ys. flat_map (spec.inner s x q) (spec.texts_from s x q [] (spec.numbers s x q)) ++ ys) l))
    ∙ ap (λ ns. flat_map (spec.double s x q) ns ++ (flat_map (spec.ambiguous s x q) ns ++ (flat_map (spec.inner s x q) (spec.texts_from s x q [] (spec.numbers s x q)) ++ flat_map (spec.leak s x q) (spec.places_of_calls s x q [] x.layout.sites)))) touched

pairs_of_parts : (s : Source) (ps : List Pair) (cs : List ℕ) (ss : List State) (rs : List Gives) → cs ≡ spec.givens s → ss ≡ spec.machine_states s → rs ≡ spec.results s
    → ps ≡ pairs cs ss rs → ps ≡ pairs (spec.givens s) (spec.machine_states s) (spec.results s)
pairs_of_parts s ps cs ss rs givens states results is =
    is
    ∙ ap (λ ns. pairs ns ss rs) givens
    ∙ ap (λ ns. pairs (spec.givens s) ns rs) states
    ∙ ap (λ ns. pairs (spec.givens s) (spec.machine_states s) ns) results

-- one kind after the other, where no call changes the answers
pub reports_in_turn : (s : Source) (x : Texts) (q q1 q2 q3 : Answers) (ats : List ℕ) (ps : List Pair) (cs : List ℕ) (ss : List State) (rs : List Gives) (f0 f1 f2 f3 f4 : List Report)
    → ats ≡ spec.touched s x q → cs ≡ spec.givens s → ss ≡ spec.machine_states s → rs ≡ spec.results s → ps ≡ pairs cs ss rs
    → q1 ≡ q → q2 ≡ q1 → q3 ≡ q2
    → f0 ≡ [] → f1 ≡ f0 ++ flat_map (spec.double s x q) ats → f2 ≡ f1 ++ flat_map (ambiguous x.layout q1 ps) ats
    → f3 ≡ f2 ++ inners x q2 → f4 ≡ f3 ++ flat_map (leak q3) (places_of_calls [] x.layout.sites)
    → f4 ≡ spec.reports s x q
reports_in_turn s x q q1 q2 q3 ats ps cs ss rs f0 f1 f2 f3 f4 touched givens states results paired a1 a2 a3 is0 is1 is2 is3 is4 =
    reports_are s x q ats ps f1 f2 f3 f4 touched (pairs_of_parts s ps cs ss rs givens states results paired)
    (is1 ∙ ap (λ ys. ys ++ flat_map (spec.double s x q) ats) is0)
    (is2 ∙ ap (λ p. f1 ++ flat_map (ambiguous x.layout p ps) ats) a1)
    (is3 ∙ ap (λ p. f2 ++ inners x p) (a2 ∙ a1))
    (is4 ∙ ap (λ p. f3 ++ flat_map (leak p) (places_of_calls [] x.layout.sites)) (a3 ∙ (a2 ∙ a1)))

-- summary and reports, where no call changes the answers
pub done_is : (s : Source) (x : Texts) (q q1 q2 : Answers) (sum : Summary) (rs : List Report) → q1 ≡ q → q2 ≡ q1
    → sum ≡ spec.summary s x q1 → rs ≡ spec.reports s x q2 → verdict.Done sum rs ≡ spec.done_with s x q
done_is s x q q1 q2 sum rs a1 a2 is1 is2 =
    ap (λ m. verdict.Done m rs) (is1 ∙ ap (λ p. spec.summary s x p) a1)
    ∙ ap (λ m. verdict.Done (spec.summary s x q) m) (is2 ∙ ap (λ p. spec.reports s x p) (a2 ∙ a1))
