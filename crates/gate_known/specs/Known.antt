-- A call that acts by the summary of its callee, as gates: for every choice they do what the call does in a run.
use Rattle.std.specs.Prelude.{◌≡◌, ℕ, ◌≤◌, Bool, Some, List, length}
use Rattle.sc_base.specs.declared.pos.Pos.{Pos}
use Rattle.bit_net.specs.declared.nodes.Node.{Node}
use Rattle.bit_net.specs.Runs.{Runs}
use Rattle.gl_store.specs.declared.values.Val.{Val}
use Rattle.gl_store.specs.declared.stores.Location.{Location}
use Rattle.gl_store.specs.Meets.{Meets, kinds, locations_top, val_kind, val_top}
use Rattle.run_store.specs.Concrete.{Cell}
use Rattle.sum_rows.specs.declared.row.Summary.{Summary}
use Rattle.sc_world.specs.Tree.{Ty}
use Rattle.sc_world.specs.Source.{Source}
use Rattle.sc_world.specs.Layout.{Layout, Occurrence}
use Rattle.sc_world.specs.World.{bit_at, kind_of_type}
use Rattle.sc_world.specs.Eval.{fails}
use Rattle.sc_world.specs.Known.{known}
use Rattle.gate_runs.specs.declared.ends.Ends.{Ends}
use Rattle.gate_runs.specs.Stands.{AreEnds, Does}
use Rattle.gate_places.specs.Places.{env_of}
use Rattle.gate_objects.specs.Escapes.{MeetsEach}

-- What a known call does and gives, for all cells that its arguments are. The choice has no more bits than the layout. Errors are at the position
-- of the call, of which no gate tells.
pub record DoesKnown (s : Source) (p : Layout) (ns : List Node) (t : Ty) (o : Occurrence) (sum : Summary) (args : List Val) (old new : List Location)
    (old_gates new_gates : Ends) (r : Val) : Type 0 where
  pub below : val_top r ≤ length ns
  pub kind : val_kind r ≡ kind_of_type s (Some t)
  pub top : locations_top new ≤ length ns
  pub same : kinds new ≡ kinds old
  pub ends : AreEnds ns new_gates
  pub bads : length new_gates.bads.items ≡ length old_gates.bads.items
  pub does : (bits : List Bool) (v : ℕ → Bool) → Runs ns (bit_at bits) v → length bits ≤ p.bits → (temps : List Cell) (turn : ℕ) (pos : Pos)
      → (cs : List Cell) → MeetsEach v args cs
      → Does v old old_gates (known (env_of s p bits temps turn) (fails (env_of s p bits temps turn) pos) o t sum cs) new new_gates (Meets v r)
