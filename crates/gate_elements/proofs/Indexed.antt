-- An element of an array in a run, where the array and the index lead to it.
use Rattle.std.proofs.Common.{◌≡◌, ℕ, suc, ◌-◌, ◌<◌, Bool, true, false, not, List, Result, Ok, Err, length, if◌then◌else◌, inl, inr, refl, sym, ◌∙◌, ap, subst, arith}
use Rattle.std.specs.Prelude.{Option, Some, None}
use Rattle.std.proofs.lemmas.Bool.{lt-ltb}
use Rattle.bit_net.specs.declared.nodes.Node.{Node}
use Rattle.bit_net.specs.Runs.{Runs, Grown}
use Rattle.bit_words.specs.declared.Word.{Word as Words}
use Rattle.gl_sets.specs.declared.pairs.Pair.{Pair}
use Rattle.gl_sets.specs.declared.sets.Set.{Set as Sets}
use Rattle.gl_sets.specs.Guards.{Points}
use Rattle.gl_store.specs.declared.values.Val.{Val}
use Rattle.gl_store.specs.declared.values.Val.TheVariants.{Word, Set}
use Rattle.gl_store.specs.declared.stores.Location.{Location}
use Rattle.gl_store.specs.Meets.{Meets}
use Rattle.run_store.specs.Concrete.{Cell, Number, Pointer, Nothing}
use Rattle.sum_rows.specs.declared.path.Step.TheVariants as step
use Rattle.sc_world.specs.declared.run.Reason.TheVariants as reason
use Rattle.sc_world.specs.Tree.{Ty}
use Rattle.sc_world.specs.Source.{Source}
use Rattle.sc_world.specs.Layout.{Layout, part, is_there, or_zero}
use Rattle.sc_world.specs.World.{World, Ended, Run, ◌>>=◌, done, target_of as target_in, number_of}
use Rattle.sc_world.specs.Eval.{Want, Place', place_of, wanted, element, element_or}
use Rattle.run_laws.specs.Fits.{StandsAt, ElementsFit}
use Rattle.run_laws.proofs.Types.{typed_there}
use Rattle.gate_runs.specs.declared.ends.Ends.{Ends}
use Rattle.gate_runs.specs.Standing.{Standing, On, Over, stand, after}
use Rattle.gate_runs.specs.Stands.{Stands, Does, Any, IsEndedWhere, aside_where}
use Rattle.gate_runs.proofs.Bind.{bind, does_done}
use Rattle.gate_steps.specs.Steps.{LeadsTo}
use Rattle.gate_steps.proofs.Known.{does_tell}
use Rattle.gate_places.specs.Places.{GoodFor, DoesFind, env_of}
use Rattle.gate_places.proofs.Assigning.{does_narrow}
use Rattle.gate_elements.specs.Elements.{DoesElement, IsElement, element_of, target_of}

-- a step that is another one wherever the run goes on before it

same_live : {A : Type 0} (v : ℕ → Bool) (l : List Location) (g0 g1 : Ends) (m k : Run A) (Good : A → Type 0)
    → (v g0.live.at ≡ true → (w : World) → m w ≡ k w) → (s : Standing (Unit {0})) → Stands v l g0 (Any {A = Unit {0}}) s
    → Stands v l g1 Good (after s (λ u. m)) → Stands v l g1 Good (after s (λ u. k))
same_live v l g0 g1 m k Good same (On u w) old new = subst (λ r. Stands v l g1 Good (stand r)) (same old.tells.live w) new
same_live v l g0 g1 m k Good same (Over x w) old new = new

does_live : {A : Type 0} (v : ℕ → Bool) (l : List Location) (g0 g1 : Ends) (m k : Run A) (Good : A → Type 0)
    → (v g0.live.at ≡ true → (w : World) → m w ≡ k w) → Does v l g0 m l g1 Good → Does v l g0 k l g1 Good
does_live v l g0 g1 m k Good same d = record { does = λ s h. same_live v l g0 g1 m k Good same s h (d.does s h) }

-- The test of an element, and the element.

abbrev found : Option ℕ → Run ℕ
found o = aside_where (λ w. not (is_there o)) reason.Index >>= λ _. done (or_zero o)

found_same : (o : Option ℕ) (w : World) → found o w ≡ element_or o w
found_same None w = refl
found_same (Some to) w = refl

abbrev passed : {A : Type 0} → Result A Ended × World → Bool
passed (Ok a, w) = true
passed (Err e, w) = false

abbrev given : Result ℕ Ended × World → ℕ
given (Ok a, w) = a
given (Err e, w) = 0

found_known : (o : Option ℕ) (w : World) (a : ℕ) (u : World) → found o w ≡ (Ok a, u) → o ≡ Some a
found_known None w a u e = let no : false ≡ true = ap passed e in absurd (cc)
found_known (Some to) w a u e = ap Some (ap given e)

never : (b : Bool) {P : Type 0} → b ≡ false → b ≡ true → P
never true off on = absurd (cc)
never false off on = absurd (cc)

-- where a location is an array, it is among the locations
stands_low : (p : Layout) (u : Ty) (at : ℕ) → StandsAt p u at → at < length p.locations
stands_low p u at (inl h) = typed_there p at u h
stands_low p u at (inr h) = h.0

looked_up : (p : Layout) (m up : ℕ) → up < length p.locations → element_of p m (suc up) ≡ part p up (step.Elem m)
looked_up p m up low = ap (λ b. if b then part p up (step.Elem m) else None) (lt-ltb up (length p.locations) low)

module _ (p : Layout) (v : ℕ → Bool) (l : List Location) (g0 g1 : Ends) (u t : Ty) (array : Sets) (made : List Pair) (m target : ℕ)
    (fits : ElementsFit p u t) (good : GoodFor v g0 p Place' u (Set array) (Pointer target)) (points : Points v made (target_of (element_of p m target))) where
  -- what the location is to which the array leads, where the run goes on
  up_of : v g0.live.at ≡ true → target ≡ suc (target - 1)
  up_of on = omega (arith, ap target_in ((good.1 on).pointer))

  low_of : v g0.live.at ≡ true → target - 1 < length p.locations
  low_of on = stands_low p u (target - 1) ((good.1 on).stands)

  part_of : v g0.live.at ≡ true → element_of p m target ≡ part p (target - 1) (step.Elem m)
  part_of on = ap (λ k. element_of p m k) (up_of on) ∙ looked_up p m (target - 1) (low_of on)

  abbrev Found : ℕ → Type 0
  Found a = LeadsTo v g1 made a × (v g1.live.at ≡ true → StandsAt p t a)

  found_good : (a : ℕ) → element_of p m target ≡ Some a → (v g1.live.at ≡ true → v g0.live.at ≡ true) → Found a
  found_good a is narrow = (
    record { target = target_of (element_of p m target); points = points; there = λ on. ap target_of is },
    λ on. inl (fits (target - 1) m a ((good.1 (narrow on)).stands) (sym (part_of (narrow on)) ∙ is)),
  )

  missed_good : (a : ℕ) → v g1.live.at ≡ false → Found a
  missed_good a off = (
    record { target = target_of (element_of p m target); points = points; there = λ on. never (v g1.live.at) off on },
    λ on. never (v g1.live.at) off on,
  )

  ended_does : Does v l g0 (aside_where (λ w. not (is_there (element_of p m target))) reason.Index) l g1 (Any {A = Unit {0}})
      → Does v l g0 (found (element_of p m target)) l g1 Found
  ended_does d =
      let o = element_of p m target in
      let first : Does v l g0 (found o) l g1 (Any {A = ℕ}) = bind v l l l g0 g1 g1 (aside_where (λ w. not (is_there o)) reason.Index) (λ _. done (or_zero o)) (Any {A = Unit {0}}) (Any {A = ℕ}) d (λ _ _. does_done v l g1 (or_zero o) (Any {A = ℕ}) tt) in
      does_tell v l l g0 g1 (found o) (λ a. Any a × (v g1.live.at ≡ true → v g0.live.at ≡ true)) Found
      (λ w met a x e h. found_good a (found_known o w a x e) h.1)
      (λ a off h. missed_good a off)
      (does_narrow v l l g0 g1 (found o) (Any {A = ℕ}) first)

  element_does : Does v l g0 (aside_where (λ w. not (is_there (element_of p m target))) reason.Index) l g1 (Any {A = Unit {0}})
      → Does v l g0 (element_or (part p (target - 1) (step.Elem m))) l g1 Found
  element_does d =
      does_live v l g0 g1 (found (element_of p m target)) (element_or (part p (target - 1) (step.Elem m))) Found
      (λ on w. found_same (element_of p m target) w ∙ ap (λ o. element_or o w) (part_of on)) (ended_does d)

indexed : (s : Source) (p : Layout) (n1 n2 n3 : List Node) (l : List Location) (want : Want) (t : Ty) (array : Sets) (index : Words) (made : List Pair) (missing : ℕ)
    (g0 g1 : Ends) (r : Val) → Grown n1 n2 → Grown n2 n3 → IsElement n1 p array.pairs.items index.bits.items made missing
    → IsEndedWhere n2 missing reason.Index g0 g1 → DoesFind s p n3 l want t made r → (choice v : ℕ → Bool) → Runs n3 choice v → (u : Ty)
    → ElementsFit p u t → (bits : List Bool) (temps : List Cell) (turn : ℕ) (q k : Cell) → GoodFor v g0 p Place' u (Set array) q → Meets v (Word index) k
    → Does v l g0 (element (env_of s p bits temps turn) (place_of q) (number_of k) >>= λ at. wanted want t at) l g1 (GoodFor v g1 p want t r)
indexed s p n1 n2 n3 l want t array index made missing g0 g1 r grown12 grown23 is ended finds choice v runs u fits bits temps turn (Pointer target) (Number w m) good meets =
    let r2 = grown23.runs choice v runs in
    let r1 = grown12.runs choice v r2 in
    let leads : Points v made (target_of (element_of p m target)) = subst (λ k. Points v made (target_of (element_of p k target))) meets.value (is.points choice v r1 target good.0) in
    let gone : v missing ≡ not (is_there (element_of p m target)) = is.none choice v r1 target good.0 ∙ ap (λ k. not (is_there (element_of p k target))) meets.value in
    bind v l l l g0 g1 g1 (element_or (part p (target - 1) (step.Elem m))) (λ at. wanted want t at)
    (λ a. LeadsTo v g1 made a × (v g1.live.at ≡ true → StandsAt p t a)) (GoodFor v g1 p want t r)
    (element_does p v l g0 g1 u t array made m target fits good leads
    (ended.does choice v r2 l (λ w. not (is_there (element_of p m target))) (λ w met. gone)))
    (λ at h. finds.does choice v runs g1 at h.0 h.1)
indexed s p n1 n2 n3 l want t array index made missing g0 g1 r grown12 grown23 is ended finds choice v runs u fits bits temps turn (Pointer target) (Pointer x) good meets = absurd meets
indexed s p n1 n2 n3 l want t array index made missing g0 g1 r grown12 grown23 is ended finds choice v runs u fits bits temps turn (Pointer target) Nothing good meets = absurd meets
indexed s p n1 n2 n3 l want t array index made missing g0 g1 r grown12 grown23 is ended finds choice v runs u fits bits temps turn (Number w m) k good meets = absurd good.0
indexed s p n1 n2 n3 l want t array index made missing g0 g1 r grown12 grown23 is ended finds choice v runs u fits bits temps turn Nothing k good meets = absurd good.0

-- q is the layout as the look-ups have it
pub does_element : (s : Source) (q p : Layout) (n1 n2 n3 : List Node) (l : List Location) (want : Want) (t : Ty) (array : Sets) (index : Words) (made : List Pair)
    (missing : ℕ) (g0 g1 : Ends) (r : Val) → q ≡ p → Grown n1 n2 → Grown n2 n3 → IsElement n1 q array.pairs.items index.bits.items made missing
    → IsEndedWhere n2 missing reason.Index g0 g1 → DoesFind s p n3 l want t made r → DoesElement s p n3 l want t array index g0 g1 r
does_element s q p n1 n2 n3 l want t array index made missing g0 g1 r same grown12 grown23 is ended finds =
    let here = subst (λ x. IsElement n1 x array.pairs.items index.bits.items made missing) same is in
    record {
      below = finds.below;
      kind = finds.kind;
      does = λ choice v runs u fits bits temps turn c k good meets.
          indexed s p n1 n2 n3 l want t array index made missing g0 g1 r grown12 grown23 here ended finds choice v runs u fits bits temps turn c k good meets;
    }
