-- What a known call does once no item has erred, as gates: its rows are asked, and its effects come in their order.
use Rattle.std.specs.Prelude.{◌≡◌, ℕ, ◌≤◌, Bool, not, ◌||◌, Some, List, length, map}
use Rattle.sc_base.specs.declared.pos.Pos.{Pos}
use Rattle.bit_net.specs.declared.nodes.Node.{Node}
use Rattle.bit_net.specs.Runs.{Runs}
use Rattle.gl_store.specs.declared.values.Val.{Val}
use Rattle.gl_store.specs.declared.stores.Location.{Location}
use Rattle.gl_store.specs.Meets.{Meets, kinds, locations_top, val_kind, val_top}
use Rattle.run_store.specs.Concrete.{Cell}
use Rattle.sc_world.specs.declared.run.Reason.TheVariants as reason
use Rattle.sc_world.specs.Tree.{Ty}
use Rattle.sc_world.specs.Source.{Source}
use Rattle.sc_world.specs.Layout.{Layout}
use Rattle.sc_world.specs.World.{Env, bit_at, kind_of_type, unless}
use Rattle.sc_world.specs.Eval.{fails}
use Rattle.sc_world.specs.Known as known
use Rattle.sc_world.specs.Known.{Acting, Locked, Outed, acts, acts_as, effects, given_by, meet_twice, state_after}
use Rattle.gate_runs.specs.declared.ends.Ends.{Ends}
use Rattle.gate_runs.specs.Stands.{Does, Any}
use Rattle.gate_places.specs.Places.{env_of}
use Rattle.gate_objects.specs.Escapes.{MeetsEach}
use Rattle.gate_paths.specs.Cells.{put_written, where_cell}
use Rattle.gate_paths.specs.Gathered.{Shows, put_locked, put_out, where_item}
use Rattle.gate_rows.specs.declared.given.Given.{Given}
use Rattle.gate_states.specs.declared.called.Called.{Called}
use Rattle.gate_states.specs.Called.{acting_of}
use Rattle.gate_known.specs.Marked.{IsShown}

-- What a run sees of a call for some choice: its arguments, and those of its items and written cells that are not missing.
pub record IsSeen (v : ℕ → Bool) (c : Called) (cs : List Cell) (ls : List Locked) (os : List Outed) (ws : List known.Written) : Type 0 where
  pub args : MeetsEach v c.args.now cs
  pub locks : Shows v where_item put_locked c.locks.now ls
  pub outs : Shows v where_item put_out c.outs.now os
  pub writes : Shows v where_cell put_written c.writes.now ws

-- no two items are at one location
abbrev pub are_apart : List Locked → List Outed → Bool
are_apart ls os = not (meet_twice (map (λ l. l.at) ls) || meet_twice (map (λ o. o.at) os))

-- the run goes on where no two items are at one location
pub record GoesOnApart (ns : List Node) (c : Called) (old new : Ends) : Type 0 where
  pub does : (choice v : ℕ → Bool) → Runs ns choice v → (locations : List Location)
      → (ls : List Locked) → Shows v where_item put_locked c.locks.now ls → (os : List Outed) → Shows v where_item put_out c.outs.now os
      → Does v locations old (unless (are_apart ls os) reason.Alias) locations new (Any {A = Unit {0}})

-- The effects of a call that gives what the gates show; the choice has no more bits than the layout.
pub record DoesEffects (s : Source) (p : Layout) (ns : List Node) (c : Called) (r : Given) (old new : List Location) (old_gates new_gates : Ends) : Type 0 where
  pub top : locations_top new ≤ length ns
  pub same : kinds new ≡ kinds old
  pub does : (bits : List Bool) (v : ℕ → Bool) → Runs ns (bit_at bits) v → length bits ≤ p.bits → (temps : List Cell) (turn : ℕ)
      → (cs : List Cell) (ls : List Locked) (os : List Outed) (ws : List known.Written) → IsSeen v c cs ls os ws → (g : known.Given) → IsShown v r g
      → Does v old old_gates (effects (env_of s p bits temps turn) (acting_of c cs ls os ws) g (map (state_after (env_of s p bits temps turn)) ls))
      new new_gates (Meets v r.val)

-- what the call does and gives where no item errs
pub record DoesActsAs (s : Source) (p : Layout) (ns : List Node) (t : Ty) (c : Called) (old new : List Location) (old_gates new_gates : Ends) (r : Val) : Type 0 where
  pub below : val_top r ≤ length ns
  pub kind : val_kind r ≡ kind_of_type s (Some t)
  pub top : locations_top new ≤ length ns
  pub same : kinds new ≡ kinds old
  pub does : (bits : List Bool) (v : ℕ → Bool) → Runs ns (bit_at bits) v → length bits ≤ p.bits → (temps : List Cell) (turn : ℕ)
      → (cs : List Cell) (ls : List Locked) (os : List Outed) (ws : List known.Written) → IsSeen v c cs ls os ws
      → Does v old old_gates (acts_as (env_of s p bits temps turn) (acting_of c cs ls os ws) (given_by (env_of s p bits temps turn) (acting_of c cs ls os ws).occurrence t))
      new new_gates (Meets v r)

-- The call once all that it has to do with is found.
pub record DoesActs (s : Source) (p : Layout) (ns : List Node) (t : Ty) (c : Called) (old new : List Location) (old_gates new_gates : Ends) (r : Val) : Type 0 where
  pub below : val_top r ≤ length ns
  pub kind : val_kind r ≡ kind_of_type s (Some t)
  pub top : locations_top new ≤ length ns
  pub same : kinds new ≡ kinds old
  pub does : (bits : List Bool) (v : ℕ → Bool) → Runs ns (bit_at bits) v → length bits ≤ p.bits → (temps : List Cell) (turn : ℕ) (pos : Pos)
      → (cs : List Cell) (ls : List Locked) (os : List Outed) (ws : List known.Written) → IsSeen v c cs ls os ws
      → Does v old old_gates (acts (env_of s p bits temps turn) (fails (env_of s p bits temps turn) pos) t (acting_of c cs ls os ws)) new new_gates (Meets v r)
