-- The rows of each item of a summary, of which each kind has its candidates.
use Rattle.std.proofs.Common.{ℕ, ◌^◌, ◌<◌, Bool, true, false, List, [], ◌∷◌, ◌++◌, length, map, inl, arith}
use Rattle.std.proofs.lemmas.List.Elements.{All-from_recursion, All-cons, All-append, All-map}
use Rattle.std.specs.Prelude.{All, AllPairs, ◌||◌, if◌then◌else◌}
use Rattle.sum_rows.specs.declared.row.State.{State}
use Rattle.sum_rows.specs.declared.row.State.TheVariants as state
use Rattle.sum_rows.specs.declared.row.Gives.{Gives}
use Rattle.sum_rows.specs.declared.row.Gives.TheVariants as gives
use Rattle.sum_rows.specs.declared.row.ItemRows.{ItemRows}
use Rattle.sc_world.specs.Source.{Source}
use Rattle.sc_world.specs.Tree.{is_integer, is_pointer}
use Rattle.sc_world.specs.World.{states}
use Rattle.sc_world.specs.Paths.{Texts}
use Rattle.sc_world.specs.Shows.{Exits, Locks, Params, Outs, entry_params}
use Rattle.sc_world.specs.Verdict.{Answers, givens, machine_states, results, nil_alone, exit_kinds, exit_candidates, lock_candidates, param_candidates, out_candidates, exit_item, lock_item, param_item, out_item, touched, changed, set_params, summary}
use Rattle.world_laws.specs.Order.{IsStateBefore, IsResultBefore, IsRowBefore}
use Rattle.world_laws.proofs.Rising.{Rising, rising_range, rising_states, states_and_error, rising_candidates, in_order, each_of}

givens_up : (s : Source) → Rising (λ x y. x < y) (givens s)
givens_up s = rising_range 0 (2 ^ length (entry_params s))

results_if : (b : Bool) → Rising IsResultBefore (if b then gives.Zero ∷ gives.NotZero ∷ [] else gives.Nothing ∷ [])
results_if true = ((omega arith, tt), (tt, tt))
results_if false = (tt, tt)

results_up : (s : Source) → Rising IsResultBefore (results s)
results_up s = results_if (is_integer s.result || is_pointer s.result)

kinds_if : (b : Bool) → Rising IsStateBefore (if b then state.Null ∷ state.Fresh ∷ state.Other ∷ [] else nil_alone)
kinds_if true = ((inl (omega arith), (inl (omega arith), tt)), ((inl (omega arith), tt), (tt, tt)))
kinds_if false = (tt, tt)

nil_up : Rising IsStateBefore nil_alone
nil_up = (tt, tt)

exits_up : (s : Source) → Rising IsRowBefore (exit_candidates s)
exits_up s =
    rising_candidates nil_alone (results s) (exit_kinds s) (givens s) (givens_up s) nil_up (results_up s)
    (kinds_if (is_pointer s.result))

all_results : List Gives
all_results = gives.Nothing ∷ gives.Zero ∷ gives.NotZero ∷ []

all_results_up : Rising IsResultBefore all_results
unfolding all_results
all_results_up = ((omega arith, (omega arith, tt)), ((omega arith, tt), (tt, tt)))

locks_up : (s : Source) → Rising IsRowBefore (lock_candidates s)
unfolding all_results
locks_up s =
    rising_candidates (machine_states s) all_results (machine_states s ++ state.Bad ∷ []) (givens s) (givens_up s)
    (rising_states (states s)) all_results_up (states_and_error (states s))

fates : List State
fates = state.Held ∷ state.Escaped ∷ state.Freed ∷ []

fates_up : Rising IsStateBefore fates
unfolding fates
fates_up = ((inl (omega arith), (inl (omega arith), tt)), ((inl (omega arith), tt), (tt, tt)))

params_up : (s : Source) → Rising IsRowBefore (param_candidates s)
unfolding fates
params_up s = rising_candidates nil_alone (results s) fates (givens s) (givens_up s) nil_up (results_up s) fates_up

kinds : List State
kinds = state.Null ∷ state.Fresh ∷ state.Other ∷ state.Same ∷ []

kinds_up : Rising IsStateBefore kinds
unfolding kinds
kinds_up = (
  (inl (omega arith), (inl (omega arith), (inl (omega arith), tt))),
  ((inl (omega arith), (inl (omega arith), tt)), ((inl (omega arith), tt), (tt, tt))),
)

outs_up : (s : Source) → Rising IsRowBefore (out_candidates s)
unfolding kinds
outs_up s = rising_candidates nil_alone (results s) kinds (givens s) (givens_up s) nil_up (results_up s) kinds_up

abbrev InOrder : ItemRows → Type 0
InOrder i = AllPairs IsRowBefore i.rows

each_item : (f : ℕ → ItemRows) → ((n : ℕ) → InOrder (f n)) → (ns : List ℕ) → All InOrder (map f ns)
each_item f so ns = All-map InOrder f ns (All-from_recursion (λ n. InOrder (f n)) ns (each_of (λ n. InOrder (f n)) so ns))

pub all_in_order : (s : Source) (x : Texts) (q : Answers) → All InOrder (summary s x q).items
all_in_order s x q =
    All-cons InOrder (exit_item s x q)
    (map (lock_item s x q) (touched s x q) ++ (map (param_item s x q) (changed s x q) ++ map (out_item s x q) (set_params s x q)))
    (in_order (λ r. q.some (Exits r)) (exit_candidates s) (exits_up s))
    (All-append InOrder (map (lock_item s x q) (touched s x q))
    (map (param_item s x q) (changed s x q) ++ map (out_item s x q) (set_params s x q))
    (each_item (lock_item s x q) (λ at. in_order (λ r. q.some (Locks at r)) (lock_candidates s) (locks_up s)) (touched s x q))
    (All-append InOrder (map (param_item s x q) (changed s x q)) (map (out_item s x q) (set_params s x q))
    (each_item (param_item s x q) (λ n. in_order (λ r. q.some (Params n r)) (param_candidates s) (params_up s)) (changed s x q))
    (each_item (out_item s x q) (λ n. in_order (λ r. q.some (Outs n r)) (out_candidates s) (outs_up s)) (set_params s x q))))
