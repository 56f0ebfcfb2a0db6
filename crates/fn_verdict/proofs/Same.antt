-- What the definitions say of a function, said of the parts of its rows.
use Rattle.std.proofs.Common.{◌≡◌, ℕ, Bool, true, false, List, [], ◌∷◌, ◌++◌, cond, map, refl, sym, ap, ◌∙◌}
use Rattle.std.specs.Prelude.{Option, Some, None, filter}
use Rattle.std.specs.List.{find}
use Rattle.sum_rows.specs.declared.row.State.{State}
use Rattle.sum_rows.specs.declared.path.Path.{Path}
use Rattle.sum_rows.specs.declared.report.Report.{Report}
use Rattle.sum_rows.specs.declared.report.Report.TheVariants as report
use Rattle.sum_rows.specs.declared.report.Shown.{Shown}
use Rattle.sc_base.specs.declared.pos.Pos.{Pos}
use Rattle.sc_world.specs.Gather.{Site}
use Rattle.sc_world.specs.Source.{Source}
use Rattle.sc_world.specs.Paths.{Texts, path_of}
use Rattle.sc_world.specs.Shows.{Locks}
use Rattle.sc_world.specs.Verdict as spec
use Rattle.sc_world.specs.Verdict.{Answers}
use Rattle.fn_verdict.specs.Double.{errs_from_all, error_row}
use Rattle.fn_verdict.specs.Inner.{endings, with_ending}
use Rattle.fn_verdict.specs.Leaks.{places_of_calls, with_pos}

pub first_of_filter : {X : Type 0} (s : Source) (x : Texts) (q : Answers) (p : X → Bool) (xs : List X)
    → spec.first_of s x q (filter p xs) ≡ find p xs
first_of_filter s x q p [] = refl
first_of_filter s x q p (y ∷ ys) =
    elim (p y) as (λ b. spec.first_of s x q (cond b (y ∷ filter p ys) (filter p ys)) ≡ cond b (Some y) (find p ys)) [
      | true ↦ refl
      | false ↦ first_of_filter s x q p ys
    ]

-- the report of a location at which an operation may err from every state
pub double_is : (s : Source) (x : Texts) (q : Answers) (at : ℕ) (givens : List ℕ) (states : List State) (c : Option ℕ)
    → givens ≡ spec.givens s → states ≡ spec.machine_states s → c ≡ find (errs_from_all q at states) givens
    → spec.double_for s x q at c ≡ spec.double s x q at
double_is s x q at givens states c cs bs is =
    ap (spec.double_for s x q at) (is ∙ ap (λ ns. find (errs_from_all q at states) ns) cs
    ∙ ap (λ ss. find (errs_from_all q at ss) (spec.givens s)) bs
    ∙ sym (first_of_filter s x q (spec.errs_from_all s x q at) (spec.givens s)))

-- that report with its path and its runs
pub double_put : (s : Source) (x : Texts) (q : Answers) (at : ℕ) (given : Option ℕ) (c : ℕ) (path : Path) (runs : List Shown) (states : List State) (before after : List Report)
    → given ≡ Some c → path ≡ path_of x.layout at → runs ≡ map (λ b. q.shown (Locks at (error_row c b))) states → states ≡ spec.machine_states s
    → after ≡ before ++ report.Double path runs ∷ [] → after ≡ before ++ spec.double_for s x q at given
double_put s x q at given c path runs states before after is located shown all put =
    put
    ∙ ap (λ p. before ++ report.Double p runs ∷ []) located
    ∙ ap (λ rs. before ++ report.Double (path_of x.layout at) rs ∷ []) (shown ∙ ap (map (λ b. q.shown (Locks at (error_row c b)))) all)
    ∙ ap (λ o. before ++ spec.double_for s x q at o) (sym is)

pub endings_are : (s : Source) (x : Texts) (q : Answers) (ts : List (List ℕ)) (ats : List ℕ) → endings x q ts ats ≡ spec.texts_from s x q ts ats
endings_are s x q ts [] = refl
endings_are s x q ts (at ∷ ats) = endings_are s x q (with_ending x q at ts) ats

pub calls_are : (s : Source) (x : Texts) (q : Answers) (ps : List Pos) (cs : List Site) → places_of_calls ps cs ≡ spec.places_of_calls s x q ps cs
calls_are s x q ps [] = refl
calls_are s x q ps (c ∷ cs) = calls_are s x q (with_pos c.pos ps) cs
