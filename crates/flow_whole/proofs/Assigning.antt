-- A node that assigns by an operator: what is asked of the step, from what holds at the node.
use Rattle.std.proofs.Common.{◌≡◌, ℕ, ◌<◌, nat_eq, Bool, true, false, ◌||◌, Some, List, [], ◌∷◌, length, slice_get, refl, sym, ◌∙◌, ap, subst, arith}
use Rattle.std.proofs.lemmas.Bool.{eq-eqb, eqb-true}
use Rattle.bit_net.specs.declared.nodes.Gate.{Gate}
use Rattle.bit_net.specs.declared.nodes.Node.{Node as Gates}
use Rattle.gl_store.specs.declared.stores.Location.{Location}
use Rattle.gl_store.specs.declared.stores.Store.{Store}
use Rattle.sc_world.specs.Source.{Source}
use Rattle.sc_world.specs.Layout.{Layout}
use Rattle.sc_world.specs.Eval.{Want, is_logical}
use Rattle.flow_graph.specs.Nodes.{Node, Updating, Update}
use Rattle.flow_stages.proofs.OfNodes.{nodes_are_fine_at}
use Rattle.flow_turns.specs.declared.before.Before.{Before}
use Rattle.flow_turns.specs.declared.before.Arrival.{Arrival}
use Rattle.flow_turns.specs.declared.steps.Made.{Made}
use Rattle.flow_turns.specs.declared.temps.Temps.{Temps}
use Rattle.flow_turns.specs.Kept.{is_kept}
use Rattle.flow_turns.proofs.Turning.{fits_at}
use Rattle.flow_keeps.specs.Reads.{AllKept, IsNamed}
use Rattle.flow_keeps.specs.Updates.{Updates}
use Rattle.flow_fills.specs.declared.laid.Laid.{Laid}
use Rattle.flow_fills.specs.Laid.{source_of, layout_of}
use Rattle.sc_flow.specs.declared.flow.Flow.{Flow}
use Rattle.flow_gates.specs.Graph.{IsThere, nodes_of}
use Rattle.flow_gates.specs.Steps.{IsStepMade}
use Rattle.flow_updates.specs.Can.{CanUpdate}
use Rattle.flow_whole.specs.Whole.{IsOf}

-- Three temps.

either : {X : Type 0} (a b : Bool) → (a || b) ≡ true → (a ≡ true → X) → (b ≡ true → X) → X
either true b e f g = f refl
either false b e f g = g e

or_there : (a b : Bool) → b ≡ true → (a || b) ≡ true
or_there true b e = refl
or_there false b e = e

pub all_three : (t : Temps) (x y z : ℕ) → AllKept t (x ∷ y ∷ []) → is_kept t z ≡ true → AllKept t (x ∷ y ∷ z ∷ [])
all_three t x y z two last = λ m named.
    either (nat_eq m x) (nat_eq m y || (nat_eq m z || false)) named
    (λ e. two m (or_first (nat_eq m x) _ e))
    (λ rest. either (nat_eq m y) (nat_eq m z || false) rest
    (λ e. two m (or_there (nat_eq m x) _ (or_first (nat_eq m y) _ e)))
    (λ e. either (nat_eq m z) false e (λ is. subst (λ (i : ℕ). is_kept t i ≡ true) (sym (eqb-true m z is)) last) (λ no_more. absurd (cc))))
  where
    or_first : (a b : Bool) → a ≡ true → (a || b) ≡ true
    or_first true b e = refl
    or_first false b e = absurd (cc)

pub one_of_two : (m x y z : ℕ) → IsNamed m (x ∷ y ∷ []) → IsNamed m (x ∷ y ∷ z ∷ [])
one_of_two m x y z named = table (nat_eq m x) (nat_eq m y) (nat_eq m z) named
  where
    table : (a b c : Bool) → (a || (b || false)) ≡ true → (a || (b || (c || false))) ≡ true
    table true b c e = refl
    table false true c e = refl
    table false false c e = absurd (cc)

pub third_named : (x y z : ℕ) → IsNamed z (x ∷ y ∷ z ∷ [])
third_named x y z = or_there (nat_eq z x) _ (or_there (nat_eq z y) _ (ap (λ (b : Bool). b || false) (eq-eqb z z refl)))

module _ (s : Source) (p : Layout) (f : Flow) (at : ℕ) (n : Node) (ns : List Gates) (x : Before) (here : Arrival) (h : IsThere s p f at n ns x here) where
  pub can_update : (u : Updating) (want : Want) (place former right m next : ℕ) → n ≡ Update u want place former right m next → is_logical u.op ≡ false
      → AllKept x.temps (place ∷ former ∷ right ∷ []) → CanUpdate s p x.temps u want place former right
  can_update u want place former right m next is plain kept =
      let there : slice_get (nodes_of s f) at ≡ Some (Update u want place former right m next) = h.node ∙ ap (λ (y : Node). Some y) is in
      let k = h.stands.kinds in
      record {
        kinds = k;
        temp = m;
        next = next;
        count = h.stands.shape.temps.count;
        fits = fits_at s p k (nodes_of s f) at (Update u want place former right m next) there h.stands.fit.types;
        have = λ j named kind get. h.stands.shape.temps.each j kind get (kept j named);
        plain = plain;
      }

  pub temp_of_update : (u : Updating) (want : Want) (place former right m next : ℕ) → n ≡ Update u want place former right m next → m < length x.temps.vals.items
  temp_of_update u want place former right m next is =
      let there : slice_get (nodes_of s f) at ≡ Some (Update u want place former right m next) = h.node ∙ ap (λ (y : Node). Some y) is in
      let k = h.stands.kinds in
      let low = (nodes_are_fine_at (length k.temps) (length k.slots) (nodes_of s f) at (Update u want place former right m next) there h.stands.fit.fine).keeps.0 in
      let count = h.stands.shape.temps.count in
      omega arith

  pub many : length x.fates.bads.items ≡ length p.locations
  many = h.stands.shape.locations

-- What is said of what is read is said of the function.

pub can_in : (s : Source) (p : Layout) (l : Laid) (t : Temps) (u : Updating) (want : Want) (place former right : ℕ) → IsOf s p l → CanUpdate s p t u want place former right
    → CanUpdate (source_of l) (layout_of l) t u want place former right
can_in s p l t u want place former right h is =
    subst (λ (q : Source). CanUpdate q (layout_of l) t u want place former right) (sym h.source)
    (subst (λ (q : Layout). CanUpdate s q t u want place former right) (sym h.layout) is)

pub many_in : (s : Source) (p : Layout) (l : Laid) (n : ℕ) → IsOf s p l → n ≡ length p.locations → length (layout_of l).locations ≡ n
many_in s p l n h is = ap (λ (q : Layout). length q.locations) h.layout ∙ sym is

pub updates_in : (s : Source) (p : Layout) (l : Laid) (t : Temps) (ns : List Gates) (u : Updating) (want : Want) (place former right : ℕ) (old new : List Location) (made : Made) → IsOf s p l
    → Updates (source_of l) (layout_of l) t ns u want place former right old new made → Updates s p t ns u want place former right old new made
updates_in s p l t ns u want place former right old new made h is =
    subst (λ (q : Layout). Updates s q t ns u want place former right old new made) h.layout
    (subst (λ (q : Source). Updates q (layout_of l) t ns u want place former right old new made) h.source is)

pub made_in : (s : Source) (p : Layout) (l : Laid) (ns : List Gates) (on : Gate) (store : Store) (made : Made) → IsOf s p l → IsStepMade (layout_of l) ns on store made → IsStepMade p ns on store made
made_in s p l ns on store made h is = subst (λ (q : Layout). IsStepMade q ns on store made) h.layout is
