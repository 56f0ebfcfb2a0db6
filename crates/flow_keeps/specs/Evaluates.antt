-- What the gates of a node's expression do, from where a gate holds.
use Rattle.std.specs.Prelude.{◌≡◌, ℕ, Bool, true, Some, List, map, slice_get, slice_index_or}
use Rattle.bit_net.specs.declared.nodes.Node.{Node}
use Rattle.bit_net.specs.Runs.{Runs}
use Rattle.gl_store.specs.declared.values.Val.{Val}
use Rattle.gl_store.specs.declared.stores.Location.{Location}
use Rattle.gl_store.specs.Meets.{Meets, kinds}
use Rattle.gate_runs.specs.declared.ends.Ends.{Ends}
use Rattle.gate_runs.specs.Stands.{Does, HasBegun}
use Rattle.run_store.specs.Concrete.{Cell, Nothing}
use Rattle.run_laws.specs.Fits.{IsPlaceOf}
use Rattle.sc_world.specs.Tree.{Ty, Exp, type_of}
use Rattle.sc_world.specs.Source.{Source}
use Rattle.sc_world.specs.Layout.{Layout}
use Rattle.sc_world.specs.World.{Env}
use Rattle.sc_world.specs.Eval.{Want, Value, Place', eval}
use Rattle.flow_graph.specs.Conditions.{InTemp, among, temps_of}
use Rattle.flow_types.specs.Kinds as flow
use Rattle.flow_turns.specs.declared.steps.Made.{Made}
use Rattle.flow_turns.specs.declared.temps.Temps.{Temps}
use Rattle.flow_turns.specs.Kept.{HasKind, val_at}

-- a value may be used everywhere, a place where the step goes on
abbrev pub IsUsable : Want → (v : ℕ → Bool) → (live sure : ℕ) → Type 0
IsUsable Value v live sure = v sure ≡ true
IsUsable Place' v live sure = v sure ≡ v live

-- what a temp is for that keeps what is wanted of an expression of that type
abbrev pub kind_of : Want → Ty → flow.Kind
kind_of Value t = flow.ValueOf t
kind_of Place' t = flow.PlaceOf t

-- The gates have the cell. That of a place leads to an object of its type where the run goes on.
abbrev pub IsReadAs : (v : ℕ → Bool) → (on : Bool) → Layout → flow.Kind → Val → Cell → Type 0
IsReadAs v on p (flow.ValueOf t) x c = Meets v x c
IsReadAs v on p (flow.PlaceOf t) x c = Meets v x c × (on ≡ true → IsPlaceOf p t c)

-- so it is of each temp that is read
abbrev pub AreRead : (v : ℕ → Bool) → (on : Bool) → Layout → flow.Kinds → Temps → List Cell → (named : List ℕ) → Type 0
AreRead v on p k t cells named =
    (n : ℕ) → among (InTemp n) (map InTemp named) ≡ true → (x : flow.Kind) → slice_get k.temps n ≡ Some x → IsReadAs v on p x (val_at t n) (slice_index_or cells n Nothing)

-- what a run reads
abbrev pub env_of : Source → Layout → (choice : List Bool) → (temps : List Cell) → Env
env_of s p choice temps = record { source = s; layout = p; choice = choice; temps = temps; turn = 0 }

-- the value is this cell, and where a place is wanted and the run goes on, that of an object of the type
abbrev pub IsWanted : (v : ℕ → Bool) → (live : ℕ) → Layout → flow.Kind → Val → Cell → Type 0
IsWanted v live p k x c = IsReadAs v (v live) p k x c

-- the gates do what the evaluation does
pub record Evaluates (s : Source) (p : Layout) (t : Temps) (ns : List Node) (want : Want) (e : Exp) (old new : List Location) (made : Made) : Type 0 where
  pub begun : Ends
  pub began : HasBegun ns made.on.at begun
  pub kind : HasKind s (kind_of want (type_of e)) made.val
  pub same : kinds new ≡ kinds old
  pub usable : (choice v : ℕ → Bool) → Runs ns choice v → IsUsable want v made.ends.live.at made.sure.at
  pub does : (choice v : ℕ → Bool) → Runs ns choice v → (k : flow.Kinds) → flow.FitsOver k p want e
      → (bits : List Bool) (cells : List Cell) → AreRead v (v begun.live.at) p k t cells (temps_of e)
      → Does v old begun (eval e want (env_of s p bits cells)) new made.ends (IsWanted v made.ends.live.at p (kind_of want (type_of e)) made.val)
