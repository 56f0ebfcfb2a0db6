-- What an expression promises whose run begins where a gate holds: its value, the store and the reasons are those of its
-- evaluation for every choice in which the gate holds, and nothing is done in any other.
use Rattle.std.specs.Prelude.{◌≡◌, ℕ, ◌<◌, ◌≤◌, Bool, true, false, None, List, length}
use Rattle.bit_net.specs.declared.nodes.Node.{Node}
use Rattle.bit_net.specs.Runs.{Runs}
use Rattle.gl_store.specs.declared.values.Val.{Val}
use Rattle.gl_store.specs.declared.stores.Location.{Location}
use Rattle.gl_store.specs.Meets.{Meets, MeetsAll, val_top, kinds, locations_top}
use Rattle.gate_runs.specs.Standing.{Standing, Over, stand, world_of, is_on, end_of, is_aside, reasons}
use Rattle.gate_runs.specs.Stands.{IsGiven, gates_top, told}
use Rattle.run_store.specs.Concrete.{Cell}
use Rattle.run_laws.specs.Fits.{IsPlaceOf}
use Rattle.sc_world.specs.Tree.{Exp, type_of, Ty}
use Rattle.sc_world.specs.World.{World}
use Rattle.sc_world.specs.Layout.{Layout}
use Rattle.sc_world.specs.Eval.{Want, Value, Place', eval}
use Rattle.flow_graph.specs.Conditions as graph
use Rattle.flow_types.specs.Kinds as flow
use Rattle.gate_places.specs.Places.{env_of}
use Rattle.expr_fits.specs.declared.around.Around.{Around}
use Rattle.tr_walk.specs.declared.evaled.Evaled.{Evaled}
use Rattle.expr_fits.specs.Around.{layout_of, source_of, temps_of}
use Rattle.expr_fits.specs.Temps.{AreKept, HasKindFor}

-- the value is the cell; that of a place leads to an object of its type where the run goes on
abbrev pub IsFor : (v : ℕ → Bool) → (on : Bool) → Layout → Want → Ty → Val → Cell → Type 0
IsFor v on p Value t x c = Meets v x c
IsFor v on p Place' t x c = Meets v x c × (on ≡ true → IsPlaceOf p t c)

-- the store is that of the run, and the gates tell whether it goes on, with which value, or for which reason it was set aside
pub record Leaves (v : ℕ → Bool) (locations : List Location) (Good : Cell → Type 0) (r : Evaled) (s : Standing Cell) : Type 0 where
  pub store : MeetsAll v locations (world_of s).places
  pub live : v r.live.at ≡ is_on s
  pub asides : (k : ℕ) → k < reasons → told v r.asides.items k ≡ is_aside k (end_of s)
  pub given : Cell
  pub good : Good given
  pub is : IsGiven s given

pub record IsEvaled (a : Around) (ns : List Node) (want : Want) (e : Exp) (begins : ℕ) (old new : List Location) (r : Evaled) : Type 0 where
  pub below : val_top r.val ≤ length ns
  pub kind : HasKindFor (source_of a) want (type_of e) r.val
  pub live : r.live.at < length ns
  pub asides : gates_top r.asides.items ≤ length ns
  pub each : length r.asides.items ≡ reasons
  pub top : locations_top new ≤ length ns
  pub same : kinds new ≡ kinds old
  pub does : (choice v : ℕ → Bool) → Runs ns choice v → (k : flow.Kinds) → flow.FitsOver k (layout_of a) want e
      → (bits : List Bool) (cells : List Cell) (turn : ℕ) → AreKept v (v begins) (layout_of a) k.temps (temps_of a) cells (graph.temps_of e) → (w : World) → MeetsAll v old w.places
      → v begins ≡ true
      → Leaves v new (IsFor v (v r.live.at) (layout_of a) want (type_of e) r.val) r (stand (eval e want (env_of (source_of a) (layout_of a) bits cells turn) w))
  pub rests : (choice v : ℕ → Bool) → Runs ns choice v → (k : flow.Kinds) → flow.FitsOver k (layout_of a) want e
      → (cells : List Cell) → AreKept v (v begins) (layout_of a) k.temps (temps_of a) cells (graph.temps_of e) → (w : World) → MeetsAll v old w.places → v begins ≡ false
      → Leaves v new (IsFor v (v r.live.at) (layout_of a) want (type_of e) r.val) r (Over None w)
