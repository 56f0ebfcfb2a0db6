-- Pairs of rows as the definitions hold them.
use Rattle.std.proofs.Common.{◌≡◌, ℕ, Bool, true, false, List, [], ◌∷◌, ◌++◌, cond, map, refl, sym, ap, ◌∙◌}
use Rattle.std.specs.Prelude.{Option, Some, None, filter, option_map}
use Rattle.std.specs.List.{find, flat_map}
use Rattle.std.proofs.lemmas.List.{map-append}
use Rattle.sum_rows.specs.declared.row.State.{State}
use Rattle.sum_rows.specs.declared.row.Gives.{Gives}
use Rattle.sc_world.specs.Source.{Source}
use Rattle.sc_world.specs.Paths.{Texts}
use Rattle.sc_world.specs.Verdict as spec
use Rattle.sc_world.specs.Verdict.{Answers}
use Rattle.fn_verdict.specs.declared.pairs.Pair.{Pair}
use Rattle.fn_verdict.specs.Pairs.{pair, pairs_of, pairs, both_stand, ambiguous, ambiguous_for}

module _ (s : Source) (x : Texts) (q : Answers) where
  view : Pair → spec.Pair s x q
  view p = record { given = p.given; before = p.before; result = p.gives; one = p.one; other = p.other }

  others_are : (c : ℕ) (b : State) (r : Gives) (a : State) (os : List State)
      → map view (map (pair c b r a) os) ≡ map (spec.pair s x q c b r) (map (λ o. (a, o)) os)
  unfolding view
  others_are c b r a [] = refl
  others_are c b r a (o ∷ os) = ap (λ zs. spec.pair s x q c b r (a, o) ∷ zs) (others_are c b r a os)

  ones_are : (c : ℕ) (b : State) (r : Gives) (ss : List State) → map view (pairs_of c b r ss) ≡ map (spec.pair s x q c b r) (spec.pairs_of s x q ss)
  ones_are c b r [] = refl
  ones_are c b r (a ∷ as') =
      map-append view (map (pair c b r a) as') (pairs_of c b r as')
      ∙ ap (λ ys. ys ++ map view (pairs_of c b r as')) (others_are c b r a as')
      ∙ ap (λ ys. map (spec.pair s x q c b r) (map (λ o. (a, o)) as') ++ ys) (ones_are c b r as')
      ∙ sym (map-append (spec.pair s x q c b r) (map (λ o. (a, o)) as') (spec.pairs_of s x q as'))

  flat_are : {X : Type 0} (f : X → List Pair) (g : X → List (spec.Pair s x q)) → ((y : X) → map view (f y) ≡ g y) → (ys : List X)
      → map view (flat_map f ys) ≡ flat_map g ys
  flat_are f g same [] = refl
  flat_are f g same (y ∷ ys) =
      map-append view (f y) (flat_map f ys)
      ∙ ap (λ zs. zs ++ map view (flat_map f ys)) (same y)
      ∙ ap (λ zs. g y ++ zs) (flat_are f g same ys)

  pairs_are : map view (pairs (spec.givens s) (spec.machine_states s) (spec.results s)) ≡ spec.pairs s x q
  pairs_are =
      flat_are _ _ (λ c. flat_are _ _ (λ b. flat_are _ _ (λ r. ones_are c b r (spec.machine_states s)) (spec.results s)) (spec.machine_states s)) (spec.givens s)

  found_is : (at : ℕ) (ps : List Pair) → spec.first_of s x q (filter (spec.both_stand s x q at) (map view ps)) ≡ option_map view (find (both_stand q at) ps)
  unfolding view
  found_is at [] = refl
  found_is at (p ∷ ps) =
      elim (both_stand q at p) as (λ b. spec.first_of s x q (cond b (view p ∷ filter (spec.both_stand s x q at) (map view ps)) (filter (spec.both_stand s x q at) (map view ps)))
      ≡ option_map view (cond b (Some p) (find (both_stand q at) ps))) [
        | true ↦ refl
        | false ↦ found_is at ps
      ]

  for_is : (at : ℕ) (o : Option Pair) → ambiguous_for x.layout q at o ≡ spec.ambiguous_for s x q at (option_map view o)
  unfolding view
  for_is at None = refl
  for_is at (Some p) = refl

  pub ambiguous_is : (at : ℕ) → ambiguous x.layout q (pairs (spec.givens s) (spec.machine_states s) (spec.results s)) at ≡ spec.ambiguous s x q at
  ambiguous_is at =
      for_is at (find (both_stand q at) (pairs (spec.givens s) (spec.machine_states s) (spec.results s)))
      ∙ ap (spec.ambiguous_for s x q at) (sym (found_is at (pairs (spec.givens s) (spec.machine_states s) (spec.results s)))
      ∙ ap (λ ps. spec.first_of s x q (filter (spec.both_stand s x q at) ps)) pairs_are)
