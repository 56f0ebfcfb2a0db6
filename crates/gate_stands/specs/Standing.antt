-- All rows that a known call needs, as a gate: for every choice it holds where a run finds that they stand.
use Rattle.std.specs.Prelude.{◌≡◌, ℕ, ◌+◌, ◌<◌, ◌≤◌, Bool, false, ◌&&◌, Option, List, length}
use Rattle.std.specs.List.{list_all}
use Rattle.bit_net.specs.declared.nodes.Node.{Node}
use Rattle.bit_net.specs.Runs.{Runs}
use Rattle.gl_store.specs.declared.stores.Location.{Location}
use Rattle.gl_store.specs.Meets.{MeetsAll}
use Rattle.run_store.specs.Concrete.{Cell, Place}
use Rattle.sum_rows.specs.declared.row.State.{State}
use Rattle.sc_world.specs.Source.{Source}
use Rattle.sc_world.specs.Layout.{Layout}
use Rattle.sc_world.specs.World.{bit_at}
use Rattle.sc_world.specs.Known as known
use Rattle.sc_world.specs.Known.{Locked, Outed, count_items, given_number, is_lock, params_stand, rows_stand, same_state}
use Rattle.gate_runs.specs.declared.ends.Ends.{Ends}
use Rattle.gate_runs.specs.Stands.{Does}
use Rattle.gate_places.specs.Places.{env_of}
use Rattle.gate_objects.specs.Escapes.{MeetsEach}
use Rattle.gate_paths.specs.Gathered.{AreFound, Shows, put_locked, put_out, where_item}
use Rattle.gate_rows.specs.declared.given.Given.{Given}
use Rattle.gate_rows.specs.declared.sought.Outcome.{Outcome}
use Rattle.gate_rows.specs.Given.{is_kind}
use Rattle.gate_rows.specs.Sought.{gives_of}
use Rattle.gate_states.specs.declared.called.Called.{Called}
use Rattle.gate_states.specs.Called.{acting_of}
use Rattle.gate_stands.specs.Items.{all_stand, lock_at_stands, out_at_stands}

-- the gates tell the result in the rows and the state of what is given
pub record Tells (v : ℕ → Bool) (r : Given) (g : known.Given) : Type 0 where
  pub result : gives_of v r.outcome ≡ g.result
  pub kind : (x : State) → is_kind v r.kind x ≡ same_state g.kind x

-- The rows stand that a known call needs; where what is given is nothing that has a row, they do not. The choice has no more bits than
-- the layout. Nothing is changed, and the gate tells it also where the run is over.
pub record RowsStand (s : Source) (p : Layout) (ns : List Node) (c : Called) (r : Given) (locations : List Location) (gate : ℕ) : Type 0 where
  pub below : gate < length ns
  pub does : (bits : List Bool) (v : ℕ → Bool) → Runs ns (bit_at bits) v → length bits ≤ p.bits → (gates : Ends) (temps : List Cell) (turn : ℕ)
      → (cs : List Cell) → MeetsEach v c.args.now cs
      → (ls : List Locked) → Shows v where_item put_locked c.locks.now ls → (os : List Outed) → Shows v where_item put_out c.outs.now os
      → (ws : List known.Written) (g : known.Given) → Tells v r g
      → Does v locations gates (rows_stand (env_of s p bits temps turn) (acting_of c cs ls os ws) g) locations gates (λ b. v gate ≡ b)
  pub nothing : (choice v : ℕ → Bool) → Runs ns choice v → ((x : State) → is_kind v r.kind x ≡ false) → v gate ≡ false

-- the rows of all items but the end, by the states that the store has
pub record ItemsStand (s : Source) (p : Layout) (ns : List Node) (c : Called) (result : Outcome) (locations : List Location) (gate : ℕ) : Type 0 where
  pub below : gate < length ns
  pub value : (bits : List Bool) (v : ℕ → Bool) → Runs ns (bit_at bits) v → length bits ≤ p.bits → (temps : List Cell) (turn : ℕ)
      → (cs : List Cell) → MeetsEach v c.args.now cs → (ps : List Place) → MeetsAll v locations ps
      → (ls : List (Option ℕ)) → AreFound v where_item c.locks.now ls → (os : List (Option ℕ)) → AreFound v where_item c.outs.now os
      → v gate ≡ (all_stand (lock_at_stands (env_of s p bits temps turn) ps (given_number cs) (gives_of v result)) c.locks.now ls
      && (params_stand (env_of s p bits temps turn) cs (given_number cs) (gives_of v result) (c.occurrence.spot + count_items is_lock c.summary.now.items)
      c.summary.now.items
      && all_stand (out_at_stands (env_of s p bits temps turn) (given_number cs) (gives_of v result)) c.outs.now os))
