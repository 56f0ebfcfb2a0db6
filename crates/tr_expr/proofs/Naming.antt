-- What names give.
use Rattle.std.proofs.Common.{◌≡◌, ℕ, ◌+◌, ◌-◌, ◌≤◌, Bool, List, length, inl, inr, refl, subst, arith}
use Rattle.bit_net.specs.declared.nodes.Node.{Node}
use Rattle.bit_net.specs.Runs.{Grown, Always}
use Rattle.gl_sets.specs.declared.pairs.Pair.{Pair}
use Rattle.gl_sets.specs.declared.sets.Set.{Set as Sets}
use Rattle.gl_sets.specs.Guards.{Points}
use Rattle.gl_sets.specs.Sets.{IsGood}
use Rattle.gl_store.specs.declared.values.Val.{Val}
use Rattle.gl_store.specs.declared.values.Val.TheVariants.{Set}
use Rattle.gl_store.specs.declared.stores.Location.{Location}
use Rattle.gl_store.specs.Meets.{Meets}
use Rattle.run_store.specs.Concrete.{Cell}
use Rattle.sc_world.specs.declared.run.Origin.{Origin}
use Rattle.sc_world.specs.Tree.{Ty}
use Rattle.sc_world.specs.Source.{Source}
use Rattle.sc_world.specs.Layout.{Layout, location_of}
use Rattle.sc_world.specs.World.{pointer_to}
use Rattle.sc_world.specs.Eval.{Want, Value, Place'}
use Rattle.run_laws.specs.Fits.{IsPlaceOf}
use Rattle.run_laws.proofs.Places.{origin_place}
use Rattle.run_laws.proofs.Types.{place_of_pointer}
use Rattle.gate_runs.specs.declared.ends.Ends.{Ends}
use Rattle.gate_runs.proofs.Bind.{does_done}
use Rattle.gate_steps.specs.Steps.{LeadsTo}
use Rattle.gate_places.specs.Places.{GoodFor, DoesFind}
use Rattle.tr_expr.specs.Names.{IsNamed, DoesName, DoesAddress}

-- a name is among the locations, or it is the first of them
pub name_low : (p : Layout) (o : Origin) → location_of p o ≤ length p.locations - 1
name_low p o = origin_place p o

pub is_named : (ns : List Node) (p : Layout) (o : Origin) (place : List Pair) (target : ℕ) → target ≡ location_of p o + 1 → IsGood ns place
    → Always ns (λ choice v. Points v place target) → IsNamed ns p o place
is_named ns p o place target e good points =
    record { below = good.below; points = λ choice v runs. subst (λ k. Points v place k) e (points.holds choice v runs) }

leads : (v : ℕ → Bool) (g : Ends) (place : List Pair) (at : ℕ) → Points v place (at + 1) → LeadsTo v g place at
leads v g place at points = record { target = at + 1; points = points; there = λ on. omega arith }

-- q is the layout as the look-ups have it
pub does_name : (s : Source) (q p : Layout) (n1 n2 : List Node) (l : List Location) (want : Want) (t : Ty) (o : Origin) (place : List Pair) (r : Val)
    → q ≡ p → Grown n1 n2 → IsNamed n1 q o place → DoesFind s p n2 l want t place r → DoesName s p n2 l want t o r
does_name s q p n1 n2 l want t o place r same grown named found =
    let here = subst (λ k. IsNamed n1 k o place) same named in
    record {
      below = found.below;
      kind = found.kind;
      does = λ choice v runs there g.
          found.does choice v runs g (location_of p o) (leads v g place (location_of p o) (here.points choice v (grown.runs choice v runs)))
          (λ on. inl there.1);
    }

good_for : (v : ℕ → Bool) (g : Ends) (p : Layout) (want : Want) (t : Ty) (r : Val) (c : Cell) → Meets v r c → IsPlaceOf p t c → GoodFor v g p want t r c
good_for v g p Value t r c m h = m
good_for v g p Place' t r c m h = (m, λ on. h)

pub does_address : (p : Layout) (ns : List Node) (o : Origin) (place : Sets) → IsNamed ns p o place.pairs.items → DoesAddress p ns o (Set place)
does_address p ns o place named =
    record {
      below = named.below;
      kind = refl;
      does = λ choice v runs want t there l g.
          let at : ℕ = location_of p o in
          does_done v l g (pointer_to at) (GoodFor v g p want t (Set place))
          (good_for v g p want t (Set place) (pointer_to at) (named.points choice v runs)
          (place_of_pointer p t at (inr (there.0.0, there.1, there.2))));
    }
