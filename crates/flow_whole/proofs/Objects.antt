-- A node that sets a local to an object: what is asked of the copy, from what holds at the node.
use Rattle.std.proofs.Common.{◌≡◌, ℕ, zero, suc, ◌<◌, Bool, false, if◌then◌else◌, Some, List, [], ◌∷◌, ◌++◌, map, length, slice_get, slice_index_or, refl, sym, ◌∙◌, ap, subst, arith}
use Rattle.bit_net.specs.declared.nodes.Node.{Node as Gates}
use Rattle.gl_store.specs.declared.stores.Location.{Location}
use Rattle.gl_store.specs.Meets.{kinds}
use Rattle.gate_places.specs.Places.{IsLaid}
use Rattle.run_store.specs.Concrete.{Kind, NoCell}
use Rattle.run_laws.specs.Fits.{is_scalar, if_scalar}
use Rattle.sc_world.specs.declared.run.Origin.TheVariants as origin
use Rattle.sc_world.specs.Tree.{Ty, Exp, type_of}
use Rattle.sc_world.specs.Source.{Source}
use Rattle.sc_world.specs.Layout.{Layout, Location as Place, location_of}
use Rattle.sc_world.specs.World.{kind_of_type}
use Rattle.sc_world.specs.Eval.{Want, Value, Place'}
use Rattle.flow_graph.specs.Nodes.{Node, Set}
use Rattle.flow_graph.specs.Conditions.{temps_of}
use Rattle.flow_types.specs.Kinds as flow
use Rattle.flow_ends.specs.Encoded.{kinds_of}
use Rattle.flow_stages.proofs.OfNodes.{nodes_are_fine_at}
use Rattle.flow_turns.specs.declared.before.Before.{Before}
use Rattle.flow_turns.specs.declared.before.Arrival.{Arrival}
use Rattle.flow_turns.specs.declared.steps.Made.{Made}
use Rattle.flow_turns.specs.declared.temps.Temps.{Temps}
use Rattle.flow_turns.proofs.Turning.{fits_at}
use Rattle.flow_keeps.specs.Evaluates.{Evaluates}
use Rattle.flow_keeps.specs.Reads.{AllKept}
use Rattle.flow_fills.specs.declared.laid.Laid.{Laid}
use Rattle.flow_fills.specs.Laid.{source_of, layout_of}
use Rattle.flow_fills.specs.Sets.{SetsLocal}
use Rattle.sc_flow.specs.declared.flow.Flow.{Flow}
use Rattle.flow_gates.specs.Graph.{IsThere, nodes_of}
use Rattle.flow_gates.specs.Steps.{CanEvaluate}
use Rattle.flow_whole.specs.Whole.{IsOf}

-- The kinds of the cells of all locations stand in their order.
kind_of_location : (s : Source) (ls : List Place) (rest : List Kind) (at : ℕ) (d : Place) → at < length ls
    → slice_index_or (map (λ l. kind_of_type s l.type) ls ++ rest) at NoCell ≡ kind_of_type s (slice_index_or ls at d).type
kind_of_location s [] rest at d low = absurd (omega arith)
kind_of_location s (l ∷ ls) rest zero d low = refl
kind_of_location s (l ∷ ls) rest (suc at) d low = kind_of_location s ls rest at d (omega arith)

pub laid_by : (s : Source) (p : Layout) (stored : List Location) → kinds stored ≡ kinds_of s p.locations → IsLaid s p stored
laid_by s p stored e = record {
  kinds = λ at low. ap (λ (ks : List Kind). slice_index_or ks at NoCell) e ∙ kind_of_location s p.locations _ at _ low;
}

-- of an object the place is wanted
place_wanted : (t : Ty) → is_scalar t ≡ false → if_scalar t ≡ Place'
place_wanted t e = ap (λ (b : Bool). if b then Value else Place') e

module _ (s : Source) (p : Layout) (f : Flow) (at : ℕ) (n : Node) (ns : List Gates) (x : Before) (here : Arrival) (h : IsThere s p f at n ns x here) where
  pub can_find : (m : ℕ) (e : Exp) (next : ℕ) → n ≡ Set m e next → is_scalar (type_of e) ≡ false → AllKept x.temps (temps_of e) → CanEvaluate s p x.temps Place' e
  can_find m e next is object kept =
      let there : slice_get (nodes_of s f) at ≡ Some (Set m e next) = h.node ∙ ap (λ (y : Node). Some y) is in
      let k = h.stands.kinds in
      record {
        kinds = k;
        fits = subst (λ (w : Want). flow.FitsOver k p w e) (place_wanted (type_of e) object) (fits_at s p k (nodes_of s f) at (Set m e next) there h.stands.fit.types).1;
        have = λ j named kind get. h.stands.shape.temps.each j kind get (kept j named);
        plain = (nodes_are_fine_at (length k.temps) (length k.slots) (nodes_of s f) at (Set m e next) there h.stands.fit.fine).plain;
      }

  -- the local has a location
  pub local_there : (m : ℕ) (e : Exp) (next : ℕ) → n ≡ Set m e next → location_of p (origin.Local m) < length p.locations
  local_there m e next is =
      let there : slice_get (nodes_of s f) at ≡ Some (Set m e next) = h.node ∙ ap (λ (y : Node). Some y) is in
      let k = h.stands.kinds in
      (fits_at s p k (nodes_of s f) at (Set m e next) there h.stands.fit.types).0.0

  -- a store whose cells have the kinds that they had
  pub laid_behind : (stored : List Location) → kinds stored ≡ kinds x.store.locations.items → IsLaid s p stored
  laid_behind stored same = laid_by s p stored (same ∙ h.stands.shape.kinds)

-- What is said of what is read is said of the function.

pub low_in : (s : Source) (p : Layout) (l : Laid) (a b : ℕ) → IsOf s p l → a ≡ b → b < length p.locations → a < length (layout_of l).locations
low_in s p l a b h e low = subst (λ (q : Layout). a < length q.locations) (sym h.layout) (subst (λ (i : ℕ). i < length p.locations) (sym e) low)

pub laid_in : (s : Source) (p : Layout) (l : Laid) (stored : List Location) → IsOf s p l → IsLaid s p stored → IsLaid (source_of l) (layout_of l) stored
laid_in s p l stored h is =
    subst (λ (t : Source). IsLaid t (layout_of l) stored) (sym h.source) (subst (λ (q : Layout). IsLaid s q stored) (sym h.layout) is)

pub sets_in : (s : Source) (p : Layout) (l : Laid) (ns new_ns : List Gates) (t : Ty) (at next : ℕ) (here : Arrival) (made : Made) (mid new : Before) → IsOf s p l
    → SetsLocal (source_of l) (layout_of l) ns new_ns t at next here made mid new → SetsLocal s p ns new_ns t at next here made mid new
sets_in s p l ns new_ns t at next here made mid new h is =
    subst (λ (q : Layout). SetsLocal s q ns new_ns t at next here made mid new) h.layout
    (subst (λ (u : Source). SetsLocal u (layout_of l) ns new_ns t at next here made mid new) h.source is)

-- the place of the object was found
pub found : (s : Source) (p : Layout) (t : Temps) (ns : List Gates) (e : Exp) (old new : List Location) (made : Made) → is_scalar (type_of e) ≡ false
    → Evaluates s p t ns Place' e old new made → Evaluates s p t ns (if_scalar (type_of e)) e old new made
found s p t ns e old new made object h = subst (λ (w : Want). Evaluates s p t ns w e old new made) (sym (place_wanted (type_of e) object)) h
