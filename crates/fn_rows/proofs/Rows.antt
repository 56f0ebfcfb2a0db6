-- The rows that a location might have.
use Rattle.std.proofs.Common.{◌≡◌, ℕ, List, [], ◌∷◌, ◌++◌, ap, ◌∙◌}
use Rattle.sum_rows.specs.declared.row.Gives.TheVariants as gives
use Rattle.sum_rows.specs.declared.row.State.{State}
use Rattle.sum_rows.specs.declared.row.State.TheVariants as state
use Rattle.sc_world.specs.Source.{Source}
use Rattle.sc_world.specs.Verdict as spec

pub locks_are : (s : Source) (cs : List ℕ) (bs as' : List State) → cs ≡ spec.givens s → bs ≡ spec.machine_states s → as' ≡ bs ++ state.Bad ∷ []
    → spec.candidates cs bs (gives.Nothing ∷ gives.Zero ∷ gives.NotZero ∷ []) as' ≡ spec.lock_candidates s
locks_are s cs bs as' givens befores afters =
    ap (λ ns. spec.candidates ns bs (gives.Nothing ∷ gives.Zero ∷ gives.NotZero ∷ []) as') givens
    ∙ ap (λ ss. spec.candidates (spec.givens s) bs (gives.Nothing ∷ gives.Zero ∷ gives.NotZero ∷ []) ss) afters
    ∙ ap (λ ss. spec.candidates (spec.givens s) ss (gives.Nothing ∷ gives.Zero ∷ gives.NotZero ∷ []) (ss ++ state.Bad ∷ [])) befores
