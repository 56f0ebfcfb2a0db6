-- The mark on what a known call gives, as gates: a fresh object is allocated, any other one may be known outside.
use Rattle.std.specs.Prelude.{◌≡◌, ℕ, ◌≤◌, nat_eq, Bool, true, ◌||◌, List, length, if◌then◌else◌}
use Rattle.bit_net.specs.declared.nodes.Gate.{Gate}
use Rattle.bit_net.specs.declared.nodes.Node.{Node}
use Rattle.bit_net.specs.Runs.{Runs}
use Rattle.bit_words.specs.Number.{number}
use Rattle.gl_sets.specs.declared.pairs.Pair.{Pair}
use Rattle.gl_sets.specs.Guards.{Points}
use Rattle.gl_store.specs.declared.stores.Location.{Location}
use Rattle.gl_store.specs.Meets.{Meets, kinds, locations_top}
use Rattle.run_store.specs.declared.Flag.{Flag}
use Rattle.sum_rows.specs.declared.row.State.TheVariants as state
use Rattle.sc_world.specs.World.{target_or_null}
use Rattle.sc_world.specs.Known as known
use Rattle.sc_world.specs.Known.{mark_if, same_state}
use Rattle.gate_runs.specs.declared.ends.Ends.{Ends}
use Rattle.gate_runs.specs.Stands.{Does, Any}
use Rattle.gate_objects.specs.Escapes.{mark_target}
use Rattle.gate_rows.specs.declared.given.Given.{Given}
use Rattle.gate_rows.specs.Given.{is_kind}

-- the target is marked where the bits spell the number
pub record MarksNamed (ns : List Node) (gates : Ends) (kind : List Gate) (n : ℕ) (flag : Flag) (object : List Pair) (old new : List Location) : Type 0 where
  pub top : locations_top new ≤ length ns
  pub same : kinds new ≡ kinds old
  pub does : (choice v : ℕ → Bool) → Runs ns choice v → (target : ℕ) → Points v object target
      → Does v old gates (mark_target (if nat_eq (number v kind) n then target else 0) flag) new gates (Any {A = Unit {0}})

-- The gates tell the value that is given and, of a pointer, whether it is fresh or another one that is not null. Such a pointer leads to
-- the object that is given.
pub record IsShown (v : ℕ → Bool) (r : Given) (g : known.Given) : Type 0 where
  pub value : Meets v r.val g.value
  pub fresh : is_kind v r.kind state.Fresh ≡ same_state g.kind state.Fresh
  pub other : is_kind v r.kind state.Other ≡ same_state g.kind state.Other
  pub object : (same_state g.kind state.Fresh || same_state g.kind state.Other) ≡ true → g.value ≡ target_or_null g.object

-- the object of what is given is marked
pub record MarksGiven (ns : List Node) (gates : Ends) (r : Given) (old new : List Location) : Type 0 where
  pub top : locations_top new ≤ length ns
  pub same : kinds new ≡ kinds old
  pub does : (choice v : ℕ → Bool) → Runs ns choice v → (g : known.Given) → IsShown v r g
      → Does v old gates (mark_if g.object g.kind) new gates (Any {A = Unit {0}})
