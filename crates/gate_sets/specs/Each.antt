-- A step that is done to some things one after the other, as gates: a set tells where each thing is, and to what is missing
-- nothing is done.
use Rattle.std.specs.Prelude.{◌≡◌, ℕ, ◌≤◌, Bool, Option, List, [], ◌∷◌, length}
use Rattle.bit_net.specs.declared.nodes.Node.{Node}
use Rattle.bit_net.specs.Runs.{Runs}
use Rattle.gl_sets.specs.declared.pairs.Pair.{Pair}
use Rattle.gl_store.specs.declared.stores.Location.{Location}
use Rattle.gl_store.specs.Meets.{kinds, locations_top}
use Rattle.run_store.specs.Concrete.{Cell}
use Rattle.sc_world.specs.Source.{Source}
use Rattle.sc_world.specs.Layout.{Layout}
use Rattle.sc_world.specs.World.{Env, Run, ◌>>=◌, bit_at, done}
use Rattle.gate_runs.specs.declared.ends.Ends.{Ends}
use Rattle.gate_runs.specs.Stands.{Does, Any}
use Rattle.gate_places.specs.Places.{env_of}
use Rattle.gate_paths.specs.Paths.{IsFound}
use Rattle.gate_paths.specs.Gathered.{Shows}

abbrev pub each : {Y : Type 0} → (Y → Run (Unit {0})) → List Y → Run (Unit {0})
each step [] = done tt
each step (y ∷ ys) = step y >>= λ _. each step ys

-- the step is done to one thing, unless that is missing
pub record DoesOne {F Y : Type 0} (s : Source) (p : Layout) (ns : List Node) (gates : Ends) (at : F → List Pair) (put : F → Option ℕ → List Y → List Y)
    (step : Env → Y → Run (Unit {0})) (f : F) (old new : List Location) : Type 0 where
  pub top : locations_top new ≤ length ns
  pub same : kinds new ≡ kinds old
  pub does : (bits : List Bool) (v : ℕ → Bool) → Runs ns (bit_at bits) v → length bits ≤ p.bits → (temps : List Cell) (turn : ℕ) (o : Option ℕ) → IsFound v (at f) o
      → Does v old gates (each (step (env_of s p bits temps turn)) (put f o [])) new gates (Any {A = Unit {0}})

-- the step is done to each of these things that is not missing, in their order
pub record DoesEach {F Y : Type 0} (s : Source) (p : Layout) (ns : List Node) (gates : Ends) (at : F → List Pair) (put : F → Option ℕ → List Y → List Y)
    (step : Env → Y → Run (Unit {0})) (fs : List F) (old new : List Location) : Type 0 where
  pub top : locations_top new ≤ length ns
  pub same : kinds new ≡ kinds old
  pub does : (bits : List Bool) (v : ℕ → Bool) → Runs ns (bit_at bits) v → length bits ≤ p.bits → (temps : List Cell) (turn : ℕ) (ys : List Y) → Shows v at put fs ys
      → Does v old gates (each (step (env_of s p bits temps turn)) ys) new gates (Any {A = Unit {0}})
