-- Objects that are freed, as gates: for every choice the run is set aside or the object is marked, as it is in a run.
use Rattle.std.specs.Prelude.{◌≡◌, ℕ, zero, suc, ◌≤◌, Bool, false, not, ◌&&◌, List, length}
use Rattle.bit_net.specs.declared.nodes.Node.{Node}
use Rattle.bit_net.specs.Runs.{Runs}
use Rattle.gl_store.specs.declared.values.Val.{Val}
use Rattle.gl_store.specs.declared.stores.Location.{Location}
use Rattle.gl_store.specs.Meets.{Meets, val_kind, val_top, kinds, locations_top}
use Rattle.run_store.specs.declared.Flag.TheVariants as flag
use Rattle.run_store.specs.Concrete.{Cell, NoCell, Place, flag_at}
use Rattle.sc_world.specs.Source.{Source}
use Rattle.sc_world.specs.Layout.{Layout, location}
use Rattle.sc_world.specs.Known.{free, may_free}
use Rattle.sc_world.specs.Eval.{release}
use Rattle.gate_runs.specs.declared.ends.Ends.{Ends}
use Rattle.gate_runs.specs.Stands.{Does, Any}
use Rattle.gate_places.specs.Places.{env_of}

-- whether a location cannot be freed: its object was freed, or it is not a whole object that may be
abbrev pub stays_at : Layout → List Place → (at : ℕ) → Bool
stays_at p ps at = not (not (flag_at ps (location p at).root flag.Freed) && may_free (location p at) at)

-- the same of a target, which is one more than a location; to free null does nothing
abbrev pub stays : Layout → List Place → (target : ℕ) → Bool
stays p ps zero = false
stays p ps (suc at) = stays_at p ps at

-- What the value points to is freed.
pub record DoesFree (p : Layout) (ns : List Node) (val : Val) (old new : List Location) (old_gates new_gates : Ends) : Type 0 where
  pub top : locations_top new ≤ length ns
  pub same : kinds new ≡ kinds old
  pub does : (choice v : ℕ → Bool) → Runs ns choice v → (s : Source) (bits : List Bool) (temps : List Cell) (turn : ℕ) (c : Cell) → Meets v val c
      → Does v old old_gates (free (env_of s p bits temps turn) c) new new_gates (Any {A = Unit {0}})

-- The call of a function that frees what the value points to; it gives nothing.
pub record DoesRelease (p : Layout) (ns : List Node) (val : Val) (old new : List Location) (old_gates new_gates : Ends) (r : Val) : Type 0 where
  pub below : val_top r ≤ length ns
  pub kind : val_kind r ≡ NoCell
  pub top : locations_top new ≤ length ns
  pub same : kinds new ≡ kinds old
  pub does : (choice v : ℕ → Bool) → Runs ns choice v → (s : Source) (bits : List Bool) (temps : List Cell) (turn : ℕ) (c : Cell) → Meets v val c
      → Does v old old_gates (release (env_of s p bits temps turn) c) new new_gates (Meets v r)
