-- What the gates of an expression promise: for every choice they do what its evaluation does in a run.
use Rattle.std.specs.Prelude.{◌≡◌, ℕ, ◌^◌, ◌≤◌, ◌<◌, Bool, true, false, List, length}
use Rattle.bit_net.specs.declared.nodes.Node.{Node}
use Rattle.bit_net.specs.Runs.{Runs}
use Rattle.gl_store.specs.declared.values.Val.{Val}
use Rattle.gl_store.specs.declared.stores.Location.{Location}
use Rattle.gl_store.specs.Meets.{val_top, kinds, locations_top}
use Rattle.gate_runs.specs.declared.ends.Ends.{Ends}
use Rattle.gate_runs.specs.Stands.{AreEnds, Does}
use Rattle.run_store.specs.Concrete.{Cell}
use Rattle.sc_tree.specs.declared.op.Step.{Step}
use Rattle.sc_tree.specs.declared.op.UnaryOp.{UnaryOp}
use Rattle.sc_tree.specs.declared.op.UnaryOp.TheVariants as sign
use Rattle.sc_world.specs.Tree.{Ty, is_pointer, Exp, PreInc, PostInc, type_of}
use Rattle.sc_world.specs.Eval.{Want, Value, Place', eval}
use Rattle.layout_base.specs.Seen as laid
use Rattle.flow_graph.specs.Conditions as graph
use Rattle.flow_types.specs.Kinds as flow
use Rattle.gate_places.specs.Places.{GoodFor, IsLaid, env_of}
use Rattle.expr_fits.specs.declared.around.Around.{Around}
use Rattle.expr_fits.specs.Around.{layout_of, source_of, temps_of}
use Rattle.expr_fits.specs.Temps.{AreKept, HasKindFor, temps_top}

-- The look-ups are those of the layout, the store has its cells, and all gates are gates of the net.
pub record IsReady (a : Around) (ns : List Node) (locations : List Location) (gates : Ends) : Type 0 where
  pub few : length (laid.layout_of a.layout.now.places.now).locations < 2 ^ 32
  pub same : laid.layout_of a.layout.now.places.now ≡ layout_of a
  pub laid : IsLaid (source_of a) (layout_of a) locations
  pub store : locations_top locations ≤ length ns
  pub ends : AreEnds ns gates
  pub temps : temps_top (temps_of a) ≤ length ns

-- all of that but the gates of a run, which begins where a gate holds
pub record CanBegin (a : Around) (ns : List Node) (locations : List Location) (begins : ℕ) : Type 0 where
  pub few : length (laid.layout_of a.layout.now.places.now).locations < 2 ^ 32
  pub same : laid.layout_of a.layout.now.places.now ≡ layout_of a
  pub laid : IsLaid (source_of a) (layout_of a) locations
  pub store : locations_top locations ≤ length ns
  pub live : begins < length ns
  pub temps : temps_top (temps_of a) ≤ length ns

-- The gates do what the evaluation does, whatever the choice, the cells of the temps that it reads and the turn of the loops are.
pub record Walks (a : Around) (ns : List Node) (want : Want) (e : Exp) (old new : List Location) (old_gates new_gates : Ends) (r : Val) : Type 0 where
  pub below : val_top r ≤ length ns
  pub kind : HasKindFor (source_of a) want (type_of e) r
  pub top : locations_top new ≤ length ns
  pub same : kinds new ≡ kinds old
  pub ends : AreEnds ns new_gates
  pub bads : length new_gates.bads.items ≡ length old_gates.bads.items
  pub does : (choice v : ℕ → Bool) → Runs ns choice v → (k : flow.Kinds) → flow.FitsOver k (layout_of a) want e
      → (bits : List Bool) (cells : List Cell) (turn : ℕ) → AreKept v (v old_gates.live.at) (layout_of a) k.temps (temps_of a) cells (graph.temps_of e)
      → Does v old old_gates (eval e want (env_of (source_of a) (layout_of a) bits cells turn)) new new_gates
      (GoodFor v new_gates (layout_of a) want (type_of e) r)

-- what is wanted of an expression of that type is a pointer
abbrev pub gives_pointer : Want → Ty → Bool
gives_pointer Value t = is_pointer t
gives_pointer Place' t = true

-- `++ a` or `a ++`
abbrev pub changes : (gives_new : Bool) → Step → Exp → Ty → Exp
changes true step a t = PreInc step a t
changes false step a t = PostInc step a t

-- whether the operator makes a value of a value
abbrev pub takes_value : UnaryOp → Bool
takes_value sign.Address = false
takes_value sign.Deref = false
takes_value _ = true
