-- Nodes of initialisers in braces: what is asked of their steps, from what holds at the node.
use Rattle.std.proofs.Common.{◌≡◌, ℕ, ◌<◌, Some, List, length, slice_get, sym, ◌∙◌, ap, subst, arith}
use Rattle.bit_net.specs.declared.nodes.Node.{Node as Gates}
use Rattle.gl_store.specs.declared.stores.Location.{Location}
use Rattle.run_laws.specs.Fits.{if_scalar}
use Rattle.sc_typed.specs.declared.stmt.TInitItem.{TInitItem}
use Rattle.sc_world.specs.Tree.{Ty, Exp, type_of}
use Rattle.sc_world.specs.Source.{Source}
use Rattle.sc_world.specs.Layout.{Layout}
use Rattle.sc_world.specs.Eval.{Want}
use Rattle.flow_graph.specs.Nodes.{Node, KeepCells}
use Rattle.flow_graph.specs.Conditions.{temps_of}
use Rattle.flow_stages.proofs.OfNodes.{nodes_are_fine_at}
use Rattle.flow_turns.specs.declared.before.Before.{Before}
use Rattle.flow_turns.specs.declared.before.Arrival.{Arrival}
use Rattle.flow_turns.specs.declared.steps.Made.{Made}
use Rattle.flow_turns.specs.declared.temps.Temps.{Temps}
use Rattle.flow_turns.proofs.Turning.{fits_at}
use Rattle.flow_keeps.specs.Evaluates.{Evaluates}
use Rattle.flow_keeps.specs.Reads.{AllKept}
use Rattle.flow_fills.specs.declared.laid.Laid.{Laid}
use Rattle.flow_fills.specs.Laid.{source_of, layout_of}
use Rattle.flow_fills.specs.Fills.{KeepsCells, Fills}
use Rattle.sc_flow.specs.declared.flow.Flow.{Flow}
use Rattle.flow_gates.specs.Graph.{IsThere, nodes_of}
use Rattle.flow_gates.specs.Steps.{CanEvaluate}
use Rattle.flow_whole.specs.Whole.{IsOf}

module _ (s : Source) (p : Layout) (f : Flow) (at : ℕ) (n : Node) (ns : List Gates) (x : Before) (here : Arrival) (h : IsThere s p f at n ns x here) where
  pub can_give : (want : Want) (m : ℕ) (e : Exp) (next : ℕ) → n ≡ KeepCells m e next → want ≡ if_scalar (type_of e) → AllKept x.temps (temps_of e) → CanEvaluate s p x.temps want e
  can_give want m e next is wanted kept =
      let there : slice_get (nodes_of s f) at ≡ Some (KeepCells m e next) = h.node ∙ ap (λ (y : Node). Some y) is in
      let k = h.stands.kinds in
      subst (λ (w : Want). CanEvaluate s p x.temps w e) (sym wanted) (record {
        kinds = k;
        fits = (fits_at s p k (nodes_of s f) at (KeepCells m e next) there h.stands.fit.types).0;
        have = λ j named kind get. h.stands.shape.temps.each j kind get (kept j named);
        plain = (nodes_are_fine_at (length k.temps) (length k.slots) (nodes_of s f) at (KeepCells m e next) there h.stands.fit.fine).plain;
      })

  pub slot_there : (m : ℕ) (e : Exp) (next : ℕ) → n ≡ KeepCells m e next → m < length x.temps.slots.items
  slot_there m e next is =
      let there : slice_get (nodes_of s f) at ≡ Some (KeepCells m e next) = h.node ∙ ap (λ (y : Node). Some y) is in
      let k = h.stands.kinds in
      let low = (nodes_are_fine_at (length k.temps) (length k.slots) (nodes_of s f) at (KeepCells m e next) there h.stands.fit.fine).keeps.0 in
      let count = h.stands.shape.temps.slots in
      omega arith

-- What is said of what is read is said of the function.

pub gives_in : (s : Source) (p : Layout) (l : Laid) (ns new_ns : List Gates) (t : Ty) (slot next : ℕ) (here : Arrival) (made : Made) (mid new : Before) → IsOf s p l
    → KeepsCells (source_of l) (layout_of l) ns new_ns t slot next here made mid new → KeepsCells s p ns new_ns t slot next here made mid new
gives_in s p l ns new_ns t slot next here made mid new h is =
    subst (λ (q : Layout). KeepsCells s q ns new_ns t slot next here made mid new) h.layout
    (subst (λ (u : Source). KeepsCells u (layout_of l) ns new_ns t slot next here made mid new) h.source is)

pub fills_in : (s : Source) (p : Layout) (l : Laid) (ns new_ns : List Gates) (location : ℕ) (items : List TInitItem) (first count next : ℕ) (here : Arrival) (old new : Before) → IsOf s p l
    → Fills (source_of l) (layout_of l) ns new_ns location items first count next here old new → Fills s p ns new_ns location items first count next here old new
fills_in s p l ns new_ns location items first count next here old new h is =
    subst (λ (q : Layout). Fills s q ns new_ns location items first count next here old new) h.layout
    (subst (λ (u : Source). Fills u (layout_of l) ns new_ns location items first count next here old new) h.source is)

-- the value, or the place of an object, was found
pub given_value : (s : Source) (p : Layout) (t : Temps) (ns : List Gates) (e : Exp) (old new : List Location) (made : Made) (want : Want) → want ≡ if_scalar (type_of e)
    → Evaluates s p t ns want e old new made → Evaluates s p t ns (if_scalar (type_of e)) e old new made
given_value s p t ns e old new made want wanted h = subst (λ (w : Want). Evaluates s p t ns w e old new made) wanted h
