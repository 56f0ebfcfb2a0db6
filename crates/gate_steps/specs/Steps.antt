-- What the steps promise: for every choice each of them does what a step of the run does, at the place to which a
-- guarded set points. Of the place they ask something only where the run goes on.
use Rattle.std.specs.Prelude.{◌≡◌, ℕ, suc, ◌≤◌, Bool, true, List, length, slice_index_or}
use Rattle.bit_net.specs.declared.nodes.Node.{Node}
use Rattle.bit_net.specs.Runs.{Runs}
use Rattle.gl_sets.specs.declared.pairs.Pair.{Pair}
use Rattle.gl_sets.specs.Guards.{Points}
use Rattle.gl_store.specs.declared.values.Val.{Val}
use Rattle.gl_store.specs.declared.stores.Location.{Location}
use Rattle.gl_store.specs.Meets.{Meets, val_kind, val_top, kinds, locations_top}
use Rattle.run_store.specs.declared.Flag.{Flag}
use Rattle.run_store.specs.Concrete.{Cell, Kind, NoCell}
use Rattle.sc_world.specs.declared.run.Reason.{Reason}
use Rattle.sc_world.specs.World.{load, store, mark, unless}
use Rattle.gate_runs.specs.declared.ends.Ends.{Ends}
use Rattle.gate_runs.specs.Stands.{Does, Any}

-- the kind that a location of the guarded store has; none past the end
abbrev pub kind_at : List Location → ℕ → Kind
kind_at locations at = slice_index_or (kinds locations) at NoCell

-- The set points to a target: where the run goes on, to this place. The target of place n is n + 1.
pub record LeadsTo (v : ℕ → Bool) (gates : Ends) (pointer : List Pair) (at : ℕ) : Type 0 where
  pub target : ℕ
  pub points : Points v pointer target
  pub there : v gates.live.at ≡ true → target ≡ suc at

-- what a place of that kind has
pub record DoesLoad (ns : List Node) (locations : List Location) (pointer : List Pair) (kind : Kind) (r : Val) : Type 0 where
  pub below : val_top r ≤ length ns
  pub same : val_kind r ≡ kind
  pub does : (choice v : ℕ → Bool) → Runs ns choice v → (gates : Ends) (at : ℕ) → LeadsTo v gates pointer at
      → (v gates.live.at ≡ true → kind_at locations at ≡ kind) → Does v locations gates (load at) locations gates (Meets v r)

-- what a location has
pub record DoesRead (ns : List Node) (locations : List Location) (at : ℕ) (r : Val) : Type 0 where
  pub below : val_top r ≤ length ns
  pub same : val_kind r ≡ kind_at locations at
  pub does : (v : ℕ → Bool) (gates : Ends) → Does v locations gates (load at) locations gates (Meets v r)

-- the value is stored at a place
pub record DoesStore (ns : List Node) (gates : Ends) (pointer : List Pair) (val : Val) (old new : List Location) : Type 0 where
  pub below : locations_top new ≤ length ns
  pub same : kinds new ≡ kinds old
  pub does : (choice v : ℕ → Bool) → Runs ns choice v → (at : ℕ) (c : Cell) → LeadsTo v gates pointer at → Meets v val c
      → Does v old gates (store at c) new gates Any

-- a place is marked
pub record DoesMark (ns : List Node) (gates : Ends) (pointer : List Pair) (flag : Flag) (old new : List Location) : Type 0 where
  pub below : locations_top new ≤ length ns
  pub same : kinds new ≡ kinds old
  pub does : (choice v : ℕ → Bool) → Runs ns choice v → (at : ℕ) → LeadsTo v gates pointer at
      → Does v old gates (mark at flag) new gates Any

-- the run goes on where the gate holds, and so where what it stands for is the case; else it is set aside
pub record GoesOnWhere (ns : List Node) (holds : ℕ) (reason : Reason) (old new : Ends) : Type 0 where
  pub does : (choice v : ℕ → Bool) → Runs ns choice v → (locations : List Location) (b : Bool) → v holds ≡ b
      → Does v locations old (unless b reason) locations new (λ u. v new.live.at ≡ true → b ≡ true)
