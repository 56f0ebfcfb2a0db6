-- What calls give by the choice, as gates: the object of an allocation, and what a call gives of which nothing is known.
use Rattle.std.specs.Prelude.{◌≡◌, ℕ, ◌≤◌, Bool, Some, List, length, if◌then◌else◌}
use Rattle.bit_net.specs.declared.nodes.Node.{Node}
use Rattle.bit_net.specs.Runs.{Runs}
use Rattle.gl_store.specs.declared.values.Val.{Val}
use Rattle.gl_store.specs.declared.stores.Location.{Location}
use Rattle.gl_store.specs.Meets.{Meets, val_kind, val_top, kinds, locations_top}
use Rattle.run_store.specs.Concrete.{Cell, Number, Nothing, Pointers}
use Rattle.sc_world.specs.Tree.{Ty, is_integer, is_pointer, int_bits}
use Rattle.sc_world.specs.Source.{Source}
use Rattle.sc_world.specs.Layout.{Layout, Occurrence}
use Rattle.sc_world.specs.World.{Run, done, Env, bit_at, number_at, null, target_or_null, kind_of_type}
use Rattle.sc_world.specs.Eval.{allocate, escaped_object, unknown}
use Rattle.gate_runs.specs.declared.ends.Ends.{Ends}
use Rattle.gate_runs.specs.Stands.{Does}
pub use Rattle.gate_places.specs.Places.{env_of}
pub use Rattle.gate_acts.specs.Acts.{IsNumber}
use Rattle.gate_objects.specs.Escapes.{MeetsEach}

-- An allocation: the object or null, by the choice, which has no more bits than the layout.
pub record DoesAllocate (p : Layout) (ns : List Node) (gates : Ends) (o : Occurrence) (old new : List Location) (r : Val) : Type 0 where
  pub below : val_top r ≤ length ns
  pub kind : val_kind r ≡ Pointers
  pub top : locations_top new ≤ length ns
  pub same : kinds new ≡ kinds old
  pub does : (bits : List Bool) (v : ℕ → Bool) → Runs ns (bit_at bits) v → length bits ≤ p.bits → (s : Source) (temps : List Cell) (turn : ℕ)
      → Does v old gates (allocate (env_of s p bits temps turn) o) new gates (Meets v r)

-- what a call gives of which nothing is known: a number of the choice, an object or null by the choice, which escapes, or nothing
abbrev pub given : Env → Occurrence → Ty → Run Cell
given env o t =
    if is_integer t
    then done (Number (int_bits env.source.widths t) (number_at env.choice o.bit (int_bits env.source.widths t)))
    else (if is_pointer t
    then (if bit_at env.choice o.bit then escaped_object env (target_or_null o.object) else done null)
    else done Nothing)

pub record DoesGive (s : Source) (p : Layout) (ns : List Node) (gates : Ends) (o : Occurrence) (t : Ty) (old new : List Location) (r : Val) : Type 0 where
  pub below : val_top r ≤ length ns
  pub kind : val_kind r ≡ kind_of_type s (Some t)
  pub top : locations_top new ≤ length ns
  pub same : kinds new ≡ kinds old
  pub does : (bits : List Bool) (v : ℕ → Bool) → Runs ns (bit_at bits) v → length bits ≤ p.bits → (temps : List Cell) (turn : ℕ)
      → Does v old gates (given (env_of s p bits temps turn) o t) new gates (Meets v r)

-- A call of which nothing is known: the objects of its arguments escape, and the choice says what it gives.
pub record DoesUnknown (s : Source) (p : Layout) (ns : List Node) (gates : Ends) (o : Occurrence) (t : Ty) (vals : List Val) (old new : List Location) (r : Val) : Type 0 where
  pub below : val_top r ≤ length ns
  pub kind : val_kind r ≡ kind_of_type s (Some t)
  pub top : locations_top new ≤ length ns
  pub same : kinds new ≡ kinds old
  pub does : (bits : List Bool) (v : ℕ → Bool) → Runs ns (bit_at bits) v → length bits ≤ p.bits → (temps : List Cell) (turn : ℕ) (cs : List Cell) → MeetsEach v vals cs
      → Does v old gates (unknown (env_of s p bits temps turn) o t cs) new gates (Meets v r)
