-- Errors of a known call, as gates. In a run the first item errs whose bit of the choice holds. As gates the items err one after the other, each
-- where its bit holds: a run that has ended does no more, so it is the first one that ends it.
use Rattle.std.specs.Prelude.{◌≡◌, ℕ, zero, suc, ◌≤◌, nat_eq, Bool, not, ◌&&◌, Option, Some, None, List, [], ◌∷◌, length, if◌then◌else◌}
use Rattle.sc_base.specs.declared.pos.Pos.{Pos}
use Rattle.bit_net.specs.declared.nodes.Gate.{Gate}
use Rattle.bit_net.specs.declared.nodes.Node.{Node}
use Rattle.bit_net.specs.Runs.{Runs}
use Rattle.bit_words.specs.Number.{number}
use Rattle.gl_sets.specs.declared.pairs.Pair.{Pair}
use Rattle.gl_sets.specs.Guards.{Points, guards_top}
use Rattle.gl_store.specs.declared.stores.Location.{Location}
use Rattle.gl_store.specs.Meets.{kinds, locations_top}
use Rattle.run_store.specs.declared.Flag.TheVariants as flag
use Rattle.run_store.specs.Concrete.{Cell}
use Rattle.sum_rows.specs.declared.row.Gives.TheVariants as gives
use Rattle.sum_rows.specs.declared.row.Row.{Row}
use Rattle.sum_rows.specs.declared.row.State.TheVariants as state
use Rattle.sc_world.specs.declared.run.Reason.TheVariants as reason
use Rattle.sc_world.specs.Source.{Source}
use Rattle.sc_world.specs.Layout.{Layout}
use Rattle.sc_world.specs.World.{Env, Run, ◌>>=◌, any, bit_at, done, mark, unless}
use Rattle.sc_world.specs.Known as known
use Rattle.sc_world.specs.Known.{Acting, Failing, Locked, Outed, errs, row, stands}
use Rattle.sc_world.specs.Eval.{fails}
use Rattle.layout_base.specs.Seen.{spot_of}
use Rattle.gate_runs.specs.declared.ends.Ends.{Ends}
use Rattle.gate_runs.specs.Stands.{Does, Any}
use Rattle.gate_places.specs.Places.{env_of}
use Rattle.gate_acts.specs.Acts.{acts_on, where_held}
use Rattle.gate_objects.specs.Escapes.{MeetsEach}
use Rattle.gate_paths.specs.declared.gathered.Found.{Found}
use Rattle.gate_paths.specs.Paths.{IsFound}
use Rattle.gate_paths.specs.Gathered.{Shows, put_locked, where_item}
use Rattle.gate_states.specs.declared.called.Called.{Called}
use Rattle.gate_states.specs.Called.{acting_of}

-- the error of an item, where its bit of the choice holds
abbrev pub errs_where : Env → Failing → Acting → Locked → Run (Unit {0})
errs_where env fail a l = where_held (bit_at env.choice l.bit) (errs env fail a l >>= λ _. done tt)

-- the errors of items, one after the other
abbrev pub errs_each : Env → Failing → Acting → List Locked → Run (Unit {0})
errs_each env fail a [] = done tt
errs_each env fail a (l ∷ ls) = do
  _ ← errs_where env fail a l
  errs_each env fail a ls

-- the error of an item, unless it is missing
abbrev pub errs_found : Env → Failing → Acting → List Row → (bit : ℕ) → Option ℕ → Run (Unit {0})
errs_found env fail a rows bit None = done tt
errs_found env fail a rows bit (Some at) = errs_where env fail a (record { rows = rows; bit = bit; at = at })

-- an error at a target, which is one more than a location; nothing for 0
abbrev pub fail_target : Env → Pos → (target : ℕ) → Run (Unit {0})
fail_target env pos zero = done tt
fail_target env pos (suc at) = fails env pos at >>= λ _. done tt

-- where a guard holds, the run ends by an error at the target of its pair
pub record FailsTarget (ns : List Node) (pair : Pair) (old new : Ends) : Type 0 where
  pub does : (choice v : ℕ → Bool) → Runs ns choice v → (locations : List Location) (env : Env) (pos : Pos)
      → Does v locations old (where_held (v pair.guard.at) (fail_target env pos pair.target)) locations new (Any {A = Unit {0}})

pub record FailsEach (ns : List Node) (pairs : List Pair) (old new : Ends) : Type 0 where
  pub does : (choice v : ℕ → Bool) → Runs ns choice v → (locations : List Location) (env : Env) (pos : Pos)
      → Does v locations old (acts_on v (fail_target env pos) pairs) locations new (Any {A = Unit {0}})

-- the set points to where an item errs: where it is if its bit of the choice holds, else to 0
pub record IsErring (p : Layout) (ns : List Node) (bit : ℕ) (at erring : List Pair) : Type 0 where
  pub below : guards_top erring ≤ length ns
  pub points : (bits : List Bool) (v : ℕ → Bool) → Runs ns (bit_at bits) v → length bits ≤ p.bits → (target : ℕ) → Points v at target
      → Points v erring (if bit_at bits bit then target else 0)

-- whether an error from a state has its row; any state has none
abbrev pub has_error : (given state : ℕ) → List Row → Bool
has_error given s rows = not (nat_eq s any) && stands (row given (state.At s) gives.Nothing state.Bad) rows

-- an error at a target needs its row; nothing is needed for 0
abbrev pub needs_row : (has_row : Bool) → (target : ℕ) → Run (Unit {0})
needs_row b zero = done tt
needs_row b (suc at) = unless b reason.NoRow

pub record NeedsRow (ns : List Node) (erring : List Pair) (has_row : ℕ) (old new : Ends) : Type 0 where
  pub does : (choice v : ℕ → Bool) → Runs ns choice v → (locations : List Location) (b : Bool) → v has_row ≡ b → (target : ℕ) → Points v erring target
      → Does v locations old (needs_row b target) locations new (Any {A = Unit {0}})

-- a location errs, if a row has the error
abbrev pub err_target : Env → Pos → (has_row : Bool) → (target : ℕ) → Run (Unit {0})
err_target env pos b zero = done tt
err_target env pos b (suc at) = do
  _ ← unless b reason.NoRow
  _ ← mark at flag.Touched
  _ ← fails env pos at
  done tt

-- the location errs to which a set points
pub record ErrsTarget (ns : List Node) (erring : List Pair) (has_row : ℕ) (old new : List Location) (old_gates new_gates : Ends) : Type 0 where
  pub top : locations_top new ≤ length ns
  pub same : kinds new ≡ kinds old
  pub does : (choice v : ℕ → Bool) → Runs ns choice v → (env : Env) (pos : Pos) (b : Bool) → v has_row ≡ b → (target : ℕ) → Points v erring target
      → Does v old old_gates (err_target env pos b target) new new_gates (Any {A = Unit {0}})

-- The error of an item; the choice has no more bits than the layout. The bits `given` are the entry bits of the call. No gate tells of the event.
pub record DoesErr (s : Source) (p : Layout) (ns : List Node) (given : List Gate) (item : Found) (old new : List Location) (old_gates new_gates : Ends) : Type 0 where
  pub top : locations_top new ≤ length ns
  pub same : kinds new ≡ kinds old
  pub does : (bits : List Bool) (v : ℕ → Bool) → Runs ns (bit_at bits) v → length bits ≤ p.bits → (temps : List Cell) (turn : ℕ) (pos : Pos) (a : Acting)
      → number v given ≡ a.given → (o : Option ℕ) → IsFound v (where_item item) o
      → Does v old old_gates (errs_found (env_of s p bits temps turn) (fails (env_of s p bits temps turn) pos) a item.rows.now (spot_of item.spot).bit o)
      new new_gates (Any {A = Unit {0}})

-- The errors of the items of a call, one after the other, for all that its sets show.
pub record DoesErrEach (s : Source) (p : Layout) (ns : List Node) (c : Called) (old new : List Location) (old_gates new_gates : Ends) : Type 0 where
  pub top : locations_top new ≤ length ns
  pub same : kinds new ≡ kinds old
  pub does : (bits : List Bool) (v : ℕ → Bool) → Runs ns (bit_at bits) v → length bits ≤ p.bits → (temps : List Cell) (turn : ℕ) (pos : Pos)
      (cs : List Cell) → MeetsEach v c.args.now cs → (ls : List Locked) → Shows v where_item put_locked c.locks.now ls
      → (os : List Outed) (ws : List known.Written)
      → Does v old old_gates
      (errs_each (env_of s p bits temps turn) (fails (env_of s p bits temps turn) pos) (acting_of c cs ls os ws) ls) new new_gates (Any {A = Unit {0}})
