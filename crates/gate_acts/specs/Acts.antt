-- Operations of the machine and tries to lock, as gates: for every choice they do what the definitions of `sc_world` do in a run.
use Rattle.std.specs.Prelude.{◌≡◌, ℕ, zero, suc, ◌+◌, ◌-◌, ◌^◌, ◌<◌, ◌≤◌, nat_eq, nat_lt, Bool, not, ◌&&◌, Option, Some, None, List, [], ◌∷◌, length, if◌then◌else◌}
use Rattle.sc_base.specs.declared.pos.Pos.{Pos}
use Rattle.bit_net.specs.declared.nodes.Node.{Node}
use Rattle.bit_net.specs.Runs.{Runs}
use Rattle.bit_words.specs.Number.{number}
use Rattle.gl_sets.specs.declared.pairs.Pair.{Pair}
use Rattle.gl_sets.specs.Guards.{Points, guards_top}
use Rattle.gl_store.specs.declared.values.Val.{Val}
use Rattle.gl_store.specs.declared.stores.Location.{Location}
use Rattle.gl_store.specs.Meets.{Meets, MeetsAll, val_kind, val_top, kinds, locations_top}
use Rattle.gl_store.specs.Steps.{number_in}
use Rattle.run_store.specs.Concrete.{Cell, Kind, Numbers, NoCell, Number, Place, nth_cell}
use Rattle.sc_world.specs.Tree.{Ty, is_integer, int_bits}
use Rattle.sc_world.specs.Source.{Source}
use Rattle.sc_world.specs.Layout.{Layout, Occurrence, is_there}
use Rattle.sc_world.specs.World.{World, Run, ◌>>=◌, done, Env, size, bit_at, state_of, set_state, target_of}
use Rattle.sc_world.specs.Eval.{fails, target_from, operation, try, locked, zero_of}
use Rattle.gate_runs.specs.declared.ends.Ends.{Ends}
use Rattle.gate_runs.specs.Stands.{Does, Any}
use Rattle.gate_steps.specs.Steps.{LeadsTo}
use Rattle.gate_places.specs.Places.{env_of}
pub use Rattle.gate_entry.specs.Entry.{IsBit, IsNumber, IsPointer}
use Rattle.gate_acts.specs.declared.tables.Table.{Table}

-- Acts on the targets of a set: each is done where the guard of its pair holds. Where a set points to a target, that is the act on this
-- target alone.

abbrev pub where_held : Bool → Run (Unit {0}) → Run (Unit {0})
where_held b m = if b then m else done tt

unfoldable pub acts_on : (v : ℕ → Bool) → (ℕ → Run (Unit {0})) → List Pair → Run (Unit {0})
acts_on v f [] = done tt
acts_on v f (p ∷ ps) = where_held (v p.guard.at) (f p.target) >>= λ _. acts_on v f ps

-- Operations.

-- a location goes to a state, or the run ends there by an error
abbrev pub goes : Env → Pos → (at : ℕ) → Option ℕ → Run (Unit {0})
goes env pos at None = fails env pos at >>= λ _. done tt
goes env pos at (Some s) = set_state env at s

-- an operation on a location
abbrev pub operate : Env → Pos → (n at : ℕ) → Run (Unit {0})
operate env pos n at = state_of env at >>= λ s. goes env pos at (target_from env n s)

-- an operation on a target, of which there are so many; nothing for null and beyond
abbrev pub operate_target : Env → Pos → (n count target : ℕ) → Run (Unit {0})
operate_target env pos n count zero = done tt
operate_target env pos n count (suc at) = if nat_lt at count then operate env pos n at else done tt

-- a location goes to a state that a table gives, where a gate holds, or the run ends there where the table gives none
pub record GoesAt (s : Source) (p : Layout) (ns : List Node) (at guard : ℕ) (table : Table) (old new : List Location) (old_gates new_gates : Ends) : Type 0 where
  pub top : locations_top new ≤ length ns
  pub same : kinds new ≡ kinds old
  pub does : (choice v : ℕ → Bool) → Runs ns choice v → (bits : List Bool) (temps : List Cell) (turn : ℕ) (pos : Pos) (o : Option ℕ)
      → v table.known.at ≡ is_there o → ((t : ℕ) → o ≡ Some t → number v table.state.bits.items ≡ t)
      → Does v old old_gates (where_held (v guard) (goes (env_of s p bits temps turn) pos at o)) new new_gates (Any {A = Unit {0}})

-- an operation is done on a location where a gate holds
pub record OperatesAt (s : Source) (p : Layout) (ns : List Node) (n at guard : ℕ) (old new : List Location) (old_gates new_gates : Ends) : Type 0 where
  pub top : locations_top new ≤ length ns
  pub same : kinds new ≡ kinds old
  pub does : (choice v : ℕ → Bool) → Runs ns choice v → (bits : List Bool) (temps : List Cell) (turn : ℕ) (pos : Pos)
      → Does v old old_gates (where_held (v guard) (operate (env_of s p bits temps turn) pos n at)) new new_gates (Any {A = Unit {0}})

-- the same on a target
pub record OperatesTarget (s : Source) (p : Layout) (ns : List Node) (n count : ℕ) (pair : Pair) (old new : List Location) (old_gates new_gates : Ends) : Type 0 where
  pub top : locations_top new ≤ length ns
  pub same : kinds new ≡ kinds old
  pub does : (choice v : ℕ → Bool) → Runs ns choice v → (bits : List Bool) (temps : List Cell) (turn : ℕ) (pos : Pos)
      → Does v old old_gates (where_held (v pair.guard.at) (operate_target (env_of s p bits temps turn) pos n count pair.target)) new new_gates (Any {A = Unit {0}})

-- the same on all targets of pairs
pub record OperatesEach (s : Source) (p : Layout) (ns : List Node) (n count : ℕ) (pairs : List Pair) (old new : List Location) (old_gates new_gates : Ends) : Type 0 where
  pub top : locations_top new ≤ length ns
  pub same : kinds new ≡ kinds old
  pub does : (choice v : ℕ → Bool) → Runs ns choice v → (bits : List Bool) (temps : List Cell) (turn : ℕ) (pos : Pos)
      → Does v old old_gates (acts_on v (operate_target (env_of s p bits temps turn) pos n count) pairs) new new_gates (Any {A = Unit {0}})

-- the kind of what an operation gives: an integer that is 0, or nothing
abbrev pub zero_kind : Source → Ty → Kind
zero_kind s t = if is_integer t then Numbers (int_bits s.widths t) else NoCell

-- the value that an operation gives
pub record IsZero (s : Source) (ns : List Node) (t : Ty) (r : Val) : Type 0 where
  pub below : val_top r ≤ length ns
  pub kind : val_kind r ≡ zero_kind s t
  pub value : (choice v : ℕ → Bool) → Runs ns choice v → (p : Layout) (bits : List Bool) (temps : List Cell) (turn : ℕ)
      → Meets v r (zero_of (env_of s p bits temps turn) t)

-- the set is the pointer that a value is, null where it is no pointer
pub record IsPointerOf (ns : List Node) (val : Val) (pairs : List Pair) : Type 0 where
  pub below : guards_top pairs ≤ length ns
  pub points : (choice v : ℕ → Bool) → Runs ns choice v → (c : Cell) → Meets v val c → Points v pairs (target_of c)

-- An operation of the machine on what the value points to.
pub record DoesOperation (s : Source) (p : Layout) (ns : List Node) (t : Ty) (n : ℕ) (val : Val) (old new : List Location) (old_gates new_gates : Ends) (r : Val) : Type 0 where
  pub below : val_top r ≤ length ns
  pub kind : val_kind r ≡ zero_kind s t
  pub top : locations_top new ≤ length ns
  pub same : kinds new ≡ kinds old
  pub does : (choice v : ℕ → Bool) → Runs ns choice v → (bits : List Bool) (temps : List Cell) (turn : ℕ) (pos : Pos) (c : Cell) → Meets v val c
      → Does v old old_gates (operation (env_of s p bits temps turn) pos t n c) new new_gates (Meets v r)

-- Tries.

-- whether the lock at a target is not locked; the state of location n is that far behind its cell
abbrev pub is_open : (size : ℕ) → List Place → (target : ℕ) → Bool
is_open size ps target = not (nat_eq (number_in (nth_cell ps (size + (target - 1)))) locked)

-- the gate holds where the lock to which a set points is not locked, and a bit of the choice says so
pub record IsHad (p : Layout) (ns : List Node) (locations : List Location) (pointer : List Pair) (bit gate : ℕ) : Type 0 where
  pub below : gate < length ns
  pub value : (bits : List Bool) (v : ℕ → Bool) → Runs ns (bit_at bits) v → length bits ≤ p.bits → (ps : List Place) → MeetsAll v locations ps
      → (t : ℕ) → Points v pointer t → v gate ≡ (is_open (length p.locations) ps t && bit_at bits bit)

-- a target is locked where b holds; nothing for null
abbrev pub lock_target : Env → Bool → (target : ℕ) → Run (Unit {0})
lock_target env b zero = done tt
lock_target env b (suc at) = where_held b (set_state env at locked)

-- where `had` holds, which tells of b where the run goes on, a target is locked under the guard of its pair
pub record LocksTarget (s : Source) (p : Layout) (ns : List Node) (had : ℕ) (pair : Pair) (old new : List Location) : Type 0 where
  pub top : locations_top new ≤ length ns
  pub same : kinds new ≡ kinds old
  pub does : (choice v : ℕ → Bool) → Runs ns choice v → (bits : List Bool) (temps : List Cell) (turn : ℕ) (gates : Ends) (b : Bool) → v had ≡ (v gates.live.at && b)
      → Does v old gates (where_held (v pair.guard.at) (lock_target (env_of s p bits temps turn) b pair.target)) new gates (Any {A = Unit {0}})

-- the same for all targets of pairs
pub record LocksEach (s : Source) (p : Layout) (ns : List Node) (had : ℕ) (pairs : List Pair) (old new : List Location) : Type 0 where
  pub top : locations_top new ≤ length ns
  pub same : kinds new ≡ kinds old
  pub does : (choice v : ℕ → Bool) → Runs ns choice v → (bits : List Bool) (temps : List Cell) (turn : ℕ) (gates : Ends) (b : Bool) → v had ≡ (v gates.live.at && b)
      → Does v old gates (acts_on v (lock_target (env_of s p bits temps turn) b) pairs) new gates (Any {A = Unit {0}})

-- a lock is taken, if it is not locked and the choice says so; whether it was taken is given
abbrev pub take_at : Env → (bit at : ℕ) → Run Bool
take_at env bit at =
    state_of env at >>= λ s.
    where_held (not (nat_eq s locked) && bit_at env.choice bit) (set_state env at locked) >>= λ _.
    done (not (nat_eq s locked) && bit_at env.choice bit)

-- the lock to which a set points is taken; the gate tells whether it was
pub record Takes (s : Source) (p : Layout) (ns : List Node) (bit : ℕ) (pointer : List Pair) (old new : List Location) (gates : Ends) (had : ℕ) : Type 0 where
  pub below : had < length ns
  pub top : locations_top new ≤ length ns
  pub same : kinds new ≡ kinds old
  pub does : (bits : List Bool) (v : ℕ → Bool) → Runs ns (bit_at bits) v → length bits ≤ p.bits → (temps : List Cell) (turn at : ℕ) → LeadsTo v gates pointer at
      → Does v old gates (take_at (env_of s p bits temps turn) bit at) new gates (λ b. v had ≡ b)

-- the value is one number where a gate holds, and another one where not
pub record IsTried (s : Source) (ns : List Node) (t : Ty) (success failure had : ℕ) (r : Val) : Type 0 where
  pub below : val_top r ≤ length ns
  pub kind : val_kind r ≡ Numbers (int_bits s.widths t)
  pub value : (choice v : ℕ → Bool) → Runs ns choice v → Meets v r (Number (int_bits s.widths t) (if v had then success else failure))

-- what a try gives where it has the lock, and where not, fits the type
pub record TryFits (s : Source) (t : Ty) (success failure : ℕ) : Type 0 where
  pub success_fits : success < 2 ^ int_bits s.widths t
  pub failure_fits : failure < 2 ^ int_bits s.widths t

-- A try to lock what the value points to; the choice has no more bits than the layout.
pub record DoesTry (s : Source) (p : Layout) (ns : List Node) (t : Ty) (bit success failure : ℕ) (val : Val) (old new : List Location) (old_gates new_gates : Ends) (r : Val) : Type 0 where
  pub below : val_top r ≤ length ns
  pub kind : val_kind r ≡ Numbers (int_bits s.widths t)
  pub top : locations_top new ≤ length ns
  pub same : kinds new ≡ kinds old
  pub does : (bits : List Bool) (v : ℕ → Bool) → Runs ns (bit_at bits) v → length bits ≤ p.bits → (temps : List Cell) (turn : ℕ) (o : Occurrence) → o.bit ≡ bit
      → (c : Cell) → Meets v val c
      → Does v old old_gates (try (env_of s p bits temps turn) t o success failure c) new new_gates (Meets v r)
