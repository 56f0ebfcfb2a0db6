-- A value is stored at a place. And gates that tell where a run goes on hold for fewer choices behind a step.
use Rattle.std.proofs.Common.{◌≡◌, ℕ, Bool, true, false, List, Result, Ok, Err, ◌∙◌, ap, arith}
use Rattle.std.specs.Prelude.{slice_index_or}
use Rattle.bit_net.specs.declared.nodes.Node.{Node}
use Rattle.bit_net.specs.Runs.{Grown}
use Rattle.gl_sets.specs.declared.sets.Set.{Set as Sets}
use Rattle.gl_store.specs.declared.values.Val.{Val}
use Rattle.gl_store.specs.declared.values.Val.TheVariants.{Set}
use Rattle.gl_store.specs.declared.stores.Location.{Location}
use Rattle.gl_store.specs.Meets.{kinds}
use Rattle.run_store.specs.Concrete.{Cell, Number, Pointer, Nothing, NoCell}
use Rattle.sc_world.specs.Tree.{Ty}
use Rattle.sc_world.specs.Source.{Source}
use Rattle.sc_world.specs.Layout.{Layout}
use Rattle.sc_world.specs.World.{World, Ended, Run, store, target_of}
use Rattle.sc_world.specs.Eval.{Want, Place', place_of, wanted}
use Rattle.gate_runs.specs.declared.ends.Ends.{Ends}
use Rattle.gate_runs.specs.Standing.{Standing, On, Over, stand, after}
use Rattle.gate_runs.specs.Stands.{Stands, Does, Any}
use Rattle.gate_runs.proofs.Bind.{bind}
use Rattle.gate_steps.specs.Steps.{LeadsTo, DoesStore}
use Rattle.gate_places.specs.Places.{GoodFor, DoesAssign, DoesFind, IsLaid}

-- a location keeps the kind that it has
pub stays_laid : (s : Source) (p : Layout) (old new : List Location) → kinds new ≡ kinds old → IsLaid s p old → IsLaid s p new
stays_laid s p old new same laid =
    record { kinds = λ at low. ap (λ ks. slice_index_or ks at NoCell) same ∙ laid.kinds at low }

-- where a place is wanted, its set leads to it
pub place_leads : (v : ℕ → Bool) (g : Ends) (p : Layout) (t : Ty) (place : Sets) (q : Cell) → GoodFor v g p Place' t (Set place) q
    → LeadsTo v g place.pairs.items (place_of q)
place_leads v g p t place (Pointer target) good =
    record {
      target = target;
      points = good.0;
      there = λ on. omega (arith, ap target_of ((good.1 on).pointer));
    }
place_leads v g p t place (Number w n) good = absurd good.0
place_leads v g p t place Nothing good = absurd good.0

pub does_assign : (s : Source) (p : Layout) (n1 ns : List Node) (g : Ends) (want : Want) (t : Ty) (place : Sets) (val : Val) (old new : List Location) (r : Val)
    → Grown n1 ns → DoesStore n1 g place.pairs.items val old new → DoesFind s p ns new want t place.pairs.items r
    → DoesAssign s p ns g want t place val old new r
does_assign s p n1 ns g want t place val old new r grown stored found =
    record {
      below = found.below;
      top = omega (arith, stored.below, grown.longer);
      same = stored.same;
      kind = found.kind;
      does = λ choice v runs bits temps turn q c good meets.
          let leads = place_leads v g p t place q good in
          bind v old new new g g g (store (place_of q) c) (λ u. wanted want t (place_of q)) (Any {A = Unit {0}}) (GoodFor v g p want t r)
          (stored.does choice v (grown.runs choice v runs) (place_of q) c leads meets)
          (λ u any. found.does choice v runs g (place_of q) leads (λ on. (good.1 on).stands));
    }

-- Where a run goes on behind a step, it went on before.

never : (b : Bool) {P : Type 0} → b ≡ false → b ≡ true → P
never true off on = absurd (cc)
never false off on = absurd (cc)

narrow_at : {A : Type 0} (v : ℕ → Bool) (l1 : List Location) (g0 g1 : Ends) (Good : A → Type 0) (r : Result A Ended × World) → v g0.live.at ≡ true
    → Stands v l1 g1 Good (stand r) → Stands v l1 g1 (λ a. Good a × (v g1.live.at ≡ true → v g0.live.at ≡ true)) (stand r)
narrow_at v l1 g0 g1 Good (Ok a, w) e h =
    record {
      store = h.store;
      tells = record { live = h.tells.live; asides = h.tells.asides; bads = h.tells.bads };
      given = h.given;
      good = (h.good, λ on. e);
      is = h.is;
    }
narrow_at v l1 g0 g1 Good (Err x, w) e h =
    record {
      store = h.store;
      tells = record { live = h.tells.live; asides = h.tells.asides; bads = h.tells.bads };
      given = h.given;
      good = (h.good, λ on. e);
      is = tt;
    }

narrow_from : {A : Type 0} (v : ℕ → Bool) (l0 l1 : List Location) (g0 g1 : Ends) (m : Run A) (Good : A → Type 0) (s : Standing (Unit {0}))
    → Stands v l0 g0 (Any {A = Unit {0}}) s → Stands v l1 g1 Good (after s (λ u. m))
    → Stands v l1 g1 (λ a. Good a × (v g1.live.at ≡ true → v g0.live.at ≡ true)) (after s (λ u. m))
narrow_from v l0 l1 g0 g1 m Good (On u w) old new = narrow_at v l1 g0 g1 Good (m w) old.tells.live new
narrow_from v l0 l1 g0 g1 m Good (Over x w) old new =
    record {
      store = new.store;
      tells = record { live = new.tells.live; asides = new.tells.asides; bads = new.tells.bads };
      given = new.given;
      good = (new.good, λ on. never (v g1.live.at) new.tells.live on);
      is = tt;
    }

pub does_narrow : {A : Type 0} (v : ℕ → Bool) (l0 l1 : List Location) (g0 g1 : Ends) (m : Run A) (Good : A → Type 0) → Does v l0 g0 m l1 g1 Good
    → Does v l0 g0 m l1 g1 (λ a. Good a × (v g1.live.at ≡ true → v g0.live.at ≡ true))
does_narrow v l0 l1 g0 g1 m Good d = record { does = λ s h. narrow_from v l0 l1 g0 g1 m Good s h (d.does s h) }

-- a place that was good before is good behind a step
pub place_stays : (v : ℕ → Bool) (g0 g1 : Ends) (p : Layout) (t : Ty) (place : Sets) (q : Cell) → (v g1.live.at ≡ true → v g0.live.at ≡ true)
    → GoodFor v g0 p Place' t (Set place) q → GoodFor v g1 p Place' t (Set place) q
place_stays v g0 g1 p t place q narrow good = (good.0, λ on. good.1 (narrow on))
