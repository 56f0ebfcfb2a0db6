-- What is asked of who makes the gates of steps.
use Rattle.std.specs.Prelude.{◌≡◌, ℕ, ◌≤◌, Bool, true, Some, List, [], ◌∷◌, length, map, slice_get}
use Rattle.bit_net.specs.declared.nodes.Gate.{Gate}
use Rattle.bit_net.specs.declared.nodes.Node.{Node as Gates}
use Rattle.gl_store.specs.declared.stores.Store.{Store}
use Rattle.gl_store.specs.Meets.{kinds, locations_top}
use Rattle.run_laws.specs.Fits.{is_scalar}
use Rattle.sc_world.specs.Tree.{Exp, type_of}
use Rattle.sc_world.specs.Source.{Source, Struct}
use Rattle.sc_world.specs.Layout.{Layout}
use Rattle.sc_world.specs.Eval.{Want}
use Rattle.flow_graph.specs.Nodes as graph
use Rattle.flow_graph.specs.Conditions.{InTemp, among, is_plain, temps_of}
use Rattle.flow_types.specs.Kinds as flow
use Rattle.flow_types.specs.Nodes.{NodeFits}
use Rattle.flow_ends.specs.Encoded.{kinds_of}
use Rattle.flow_turns.specs.declared.steps.Made.{Made}
use Rattle.flow_turns.specs.declared.temps.Temps.{Temps}
use Rattle.flow_turns.specs.Kept.{HasKind, val_at}
use Rattle.flow_turns.specs.Steps.{IsMade}
use Rattle.sc_flow.specs.declared.node.Calling.{Calling}
use Rattle.sc_flow.specs.declared.node.Expression.{Expression}
use Rattle.sc_flow.specs.declared.node.Node.{Node}
use Rattle.sc_flow.specs.declared.node.Node.TheVariants as code
use Rattle.sc_flow.specs.Seen.{expression}

-- the store has the cells of the layout, and its gates are gates of the net
pub record IsStored (s : Source) (p : Layout) (ns : List Gates) (store : Store) : Type 0 where
  pub below : locations_top store.locations.items ≤ length ns
  pub same : kinds store.locations.items ≡ kinds_of s p.locations

-- the gates of a step that began where a gate holds, and of the store behind it, are gates of the net
pub record IsStepMade (p : Layout) (ns : List Gates) (on : Gate) (store : Store) (made : Made) : Type 0 where
  pub is_made : IsMade ns (length p.locations) made
  pub began : made.on ≡ on
  pub below : locations_top store.locations.items ≤ length ns

-- each temp of a list has the kind that it is for
abbrev pub HaveTheirKinds : Source → flow.Kinds → Temps → (named : List ℕ) → Type 0
HaveTheirKinds s k t named = (n : ℕ) → among (InTemp n) (map InTemp named) ≡ true → (x : flow.Kind) → slice_get k.temps n ≡ Some x → HasKind s x (val_at t n)

-- the expression has no call and no branch, and fits the layout over temps that have their kinds
pub record CanEvaluate (s : Source) (p : Layout) (t : Temps) (want : Want) (e : Exp) : Type 0 where
  pub kinds : flow.Kinds
  pub fits : flow.FitsOver kinds p want e
  pub have : HaveTheirKinds s kinds t (temps_of e)
  pub plain : is_plain e ≡ true

-- the call fits the layout, with arguments that have their kinds
pub record CanCall (s : Source) (p : Layout) (t : Temps) (c : graph.Calling) (args : List ℕ) : Type 0 where
  pub kinds : flow.Kinds
  pub temp : ℕ
  pub next : ℕ
  pub fits : NodeFits s p kinds (graph.CallOf c args temp next)
  pub have : HaveTheirKinds s kinds t args
