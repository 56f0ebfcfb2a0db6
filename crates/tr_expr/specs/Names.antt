-- What names give, for every choice: parameters, locals and globals, and functions and strings.
use Rattle.std.specs.Prelude.{◌≡◌, ℕ, ◌+◌, ◌≤◌, Bool, List, length}
use Rattle.bit_net.specs.declared.nodes.Node.{Node}
use Rattle.bit_net.specs.Runs.{Runs}
use Rattle.gl_sets.specs.declared.pairs.Pair.{Pair}
use Rattle.gl_sets.specs.Guards.{Points, guards_top}
use Rattle.gl_store.specs.declared.values.Val.{Val}
use Rattle.gl_store.specs.declared.stores.Location.{Location}
use Rattle.gl_store.specs.Meets.{val_kind, val_top}
use Rattle.run_store.specs.Concrete.{Pointers}
use Rattle.sc_world.specs.declared.run.Origin.{Origin}
use Rattle.sc_world.specs.Tree.{Ty}
use Rattle.sc_world.specs.Source.{Source}
use Rattle.sc_world.specs.Layout.{Layout, location_of}
use Rattle.sc_world.specs.World.{done, pointer_to}
use Rattle.sc_world.specs.Eval.{Want, wanted}
use Rattle.run_laws.specs.Fits.{IsTypedThere, IsStubThere}
use Rattle.gate_runs.specs.declared.ends.Ends.{Ends}
use Rattle.gate_runs.specs.Stands.{Does}
use Rattle.gate_places.specs.Places.{GoodFor, wanted_kind}

-- the pointer leads to the location that the name is
pub record IsNamed (ns : List Node) (p : Layout) (o : Origin) (place : List Pair) : Type 0 where
  pub below : guards_top place ≤ length ns
  pub points : (choice v : ℕ → Bool) → Runs ns choice v → Points v place (location_of p o + 1)

-- what is wanted of a parameter, a local or a global
pub record DoesName (s : Source) (p : Layout) (ns : List Node) (locations : List Location) (want : Want) (t : Ty) (o : Origin) (r : Val) : Type 0 where
  pub below : val_top r ≤ length ns
  pub kind : val_kind r ≡ wanted_kind s want t
  pub does : (choice v : ℕ → Bool) → Runs ns choice v → IsTypedThere p o t → (gates : Ends)
      → Does v locations gates (wanted want t (location_of p o)) locations gates (GoodFor v gates p want t r)

-- the place of a function or a string
pub record DoesAddress (p : Layout) (ns : List Node) (o : Origin) (r : Val) : Type 0 where
  pub below : val_top r ≤ length ns
  pub kind : val_kind r ≡ Pointers
  pub does : (choice v : ℕ → Bool) → Runs ns choice v → (want : Want) (t : Ty) → IsStubThere p o t → (locations : List Location) (gates : Ends)
      → Does v locations gates (done (pointer_to (location_of p o))) locations gates (GoodFor v gates p want t r)
