-- What is asked of who makes the gates of steps, from what holds at a node.
use Rattle.std.proofs.Common.{◌≡◌, ℕ, zero, suc, ◌+◌, ◌<◌, ◌≤◌, ◌^◌, nat_eq, Bool, true, false, ◌&&◌, ◌||◌, if◌then◌else◌, Some, List, map, length, slice_get, refl, sym, ◌∙◌, ap, subst, arith}
use Rattle.std.proofs.lemmas.Bool.{eq-eqb, eqb-true}
use Rattle.bit_net.specs.declared.nodes.Gate.{Gate}
use Rattle.bit_net.specs.declared.nodes.Node.{Node as Gates}
use Rattle.bit_net.specs.Circuit.{input_count}
use Rattle.bit_net.specs.Runs.{Grown, Gives}
use Rattle.gl_store.specs.declared.stores.Store.{Store}
use Rattle.run_laws.specs.Fits.{is_scalar}
use Rattle.sc_world.specs.Tree.{Exp, type_of}
use Rattle.sc_world.specs.Source.{Source}
use Rattle.sc_world.specs.Layout.{Layout}
use Rattle.sc_world.specs.Eval.{Want, Value, Place'}
use Rattle.flow_graph.specs.Nodes.{Node, Calling, Keep, CallOf, Set}
use Rattle.flow_graph.specs.Conditions.{InTemp, among, temps_of}
use Rattle.flow_graph.specs.Growing.{numbers}
use Rattle.flow_types.specs.Kinds as flow
use Rattle.flow_types.specs.Nodes.{NodeFits}
use Rattle.flow_stages.proofs.OfNodes.{nodes_are_fine_at}
use Rattle.flow_turns.specs.declared.before.Before.{Before}
use Rattle.flow_turns.specs.declared.before.Arrival.{Arrival}
use Rattle.flow_turns.specs.declared.steps.Made.{Made}
use Rattle.flow_turns.specs.declared.temps.Temps.{Temps}
use Rattle.flow_turns.specs.Kept.{is_kept, AreTemps}
use Rattle.flow_turns.specs.Before.{AreGates, IsAt, IsBefore, IsHere, GoesBy}
use Rattle.flow_turns.specs.Steps.{IsMade}
use Rattle.flow_turns.proofs.Turning.{fits_at}
use Rattle.flow_turns.proofs.Past.{temps_grown, gates_grown}
use Rattle.flow_keeps.specs.Keeps.{BeginsAt}
use Rattle.flow_keeps.specs.Reads.{AllKept, each_sure}
use Rattle.sc_flow.specs.declared.flow.Flow.{Flow}
use Rattle.flow_gates.specs.Graph.{IsSmall, IsThere, nodes_of}
use Rattle.flow_gates.specs.Steps.{CanEvaluate, CanCall, IsStored, IsStepMade}

pub grown_same : {ns : List Gates} → Grown ns ns
grown_same = record { longer = omega arith; inputs = refl; runs = λ choice v r. r }

module _ (s : Source) (p : Layout) (f : Flow) (at : ℕ) (n : Node) (ns : List Gates) (x : Before) (here : Arrival) (h : IsThere s p f at n ns x here) where
  -- the node's expression can be evaluated
  pub can_keep : (want : Want) (m : ℕ) (e : Exp) (next : ℕ) → n ≡ Keep want m e next → AllKept x.temps (temps_of e) → CanEvaluate s p x.temps want e
  can_keep want m e next is kept =
      let there : slice_get (nodes_of s f) at ≡ Some (Keep want m e next) = h.node ∙ ap (λ (y : Node). Some y) is in
      let k = h.stands.kinds in
      record {
        kinds = k;
        fits = (fits_at s p k (nodes_of s f) at (Keep want m e next) there h.stands.fit.types).0;
        have = λ j named kind get. h.stands.shape.temps.each j kind get (kept j named);
        plain = (nodes_are_fine_at (length k.temps) (length k.slots) (nodes_of s f) at (Keep want m e next) there h.stands.fit.fine).plain;
      }

  pub temp_in : (want : Want) (m : ℕ) (e : Exp) (next : ℕ) → n ≡ Keep want m e next → m < length x.temps.vals.items
  temp_in want m e next is =
      let there : slice_get (nodes_of s f) at ≡ Some (Keep want m e next) = h.node ∙ ap (λ (y : Node). Some y) is in
      let k = h.stands.kinds in
      let low = (nodes_are_fine_at (length k.temps) (length k.slots) (nodes_of s f) at (Keep want m e next) there h.stands.fit.fine).keeps.0 in
      let count = h.stands.shape.temps.count in
      omega arith

  pub can_set : (m : ℕ) (e : Exp) (next : ℕ) → n ≡ Set m e next → is_scalar (type_of e) ≡ true → AllKept x.temps (temps_of e) → CanEvaluate s p x.temps Value e
  can_set m e next is scalar kept =
      let there : slice_get (nodes_of s f) at ≡ Some (Set m e next) = h.node ∙ ap (λ (y : Node). Some y) is in
      let k = h.stands.kinds in
      record {
        kinds = k;
        fits = value_fits k m e next scalar (fits_at s p k (nodes_of s f) at (Set m e next) there h.stands.fit.types);
        have = λ j named kind get. h.stands.shape.temps.each j kind get (kept j named);
        plain = (nodes_are_fine_at (length k.temps) (length k.slots) (nodes_of s f) at (Set m e next) there h.stands.fit.fine).plain;
      }
    where
      value_fits : (k : flow.Kinds) (m : ℕ) (e : Exp) (next : ℕ) → is_scalar (type_of e) ≡ true → NodeFits s p k (Set m e next) → flow.FitsOver k p Value e
      value_fits k m e next scalar g = subst (λ (w : Want). flow.FitsOver k p w e) (wanted (is_scalar (type_of e)) scalar) g.1
        where
          wanted : (b : Bool) → b ≡ true → (if b then Value else Place') ≡ Value
          wanted true e = refl
          wanted false e = absurd (cc)

  -- the store, in a later net
  pub stored : (ns' : List Gates) → Grown ns ns' → IsStored s p ns' x.store
  stored ns' g = record {
    below = (let low = h.gates.store in let more = g.longer in omega arith);
    same = h.stands.shape.kinds;
  }

-- all kept, by another name of the list
pub kept_by_name : (t : Temps) (ms ks : List ℕ) → ms ≡ ks → AllKept t ms → AllKept t ks
kept_by_name t ms ks e h = subst (AllKept t) e h

-- where the step begins, in the net behind it
pub begins_sure : (ns ns' : List Gates) (here : Arrival) (old : Before) (ms ks : List ℕ) (on : Gate) (made : Made) → Grown ns ns' → ms ≡ ks → made.on ≡ on
    → Gives ns on.at (λ choice v. v here.gate.at && each_sure v old.temps ms) → BeginsAt ns' here old ks made.on.at
begins_sure ns ns' here old ms ks on made g e f h = record {
  below = (let low = h.below in let more = g.longer in let same = ap (λ (x : Gate). x.at) f in omega arith);
  value = λ choice v r.
      ap (λ (x : Gate). v x.at) f ∙ (h.value choice v (g.runs choice v r) ∙ ap (λ xs. v here.gate.at && each_sure v old.temps xs) e);
}

-- Calls.
module _ (s : Source) (p : Layout) (f : Flow) (at : ℕ) (n : Node) (ns : List Gates) (x : Before) (here : Arrival) (h : IsThere s p f at n ns x here) where
  pub can_call : (c : Calling) (args : List ℕ) (m next : ℕ) → n ≡ CallOf c args m next → AllKept x.temps args → CanCall s p x.temps c args
  can_call c args m next is kept =
      let there : slice_get (nodes_of s f) at ≡ Some (CallOf c args m next) = h.node ∙ ap (λ (y : Node). Some y) is in
      let k = h.stands.kinds in
      record {
        kinds = k;
        temp = m;
        next = next;
        fits = fits_at s p k (nodes_of s f) at (CallOf c args m next) there h.stands.fit.types;
        have = λ j named kind get. h.stands.shape.temps.each j kind get (kept j named);
      }

  pub temp_of_call : (c : Calling) (args : List ℕ) (m next : ℕ) → n ≡ CallOf c args m next → m < length x.temps.vals.items
  temp_of_call c args m next is =
      let there : slice_get (nodes_of s f) at ≡ Some (CallOf c args m next) = h.node ∙ ap (λ (y : Node). Some y) is in
      let k = h.stands.kinds in
      let low = (nodes_are_fine_at (length k.temps) (length k.slots) (nodes_of s f) at (CallOf c args m next) there h.stands.fit.fine).keeps.0 in
      let count = h.stands.shape.temps.count in
      omega arith

-- Numbers one after another.

pub in_numbers : (f n j : ℕ) → j < n → among (InTemp (f + j)) (map InTemp (numbers f n)) ≡ true
in_numbers f zero j low = absurd (omega arith)
in_numbers f (suc n) zero low =
    let same : f + 0 ≡ f = omega arith in
    ap (λ b. b || among (InTemp (f + 0)) (map InTemp (numbers (f + 1) n))) (eq-eqb (f + 0) f same)
in_numbers f (suc n) (suc j) low =
    let same : f + 1 + j ≡ f + suc j = omega arith in
    or_there (nat_eq (f + suc j) f) (among (InTemp (f + suc j)) (map InTemp (numbers (f + 1) n)))
    (subst (λ (i : ℕ). among (InTemp i) (map InTemp (numbers (f + 1) n)) ≡ true) same (in_numbers (f + 1) n j (omega arith)))
  where
    or_there : (a b : Bool) → b ≡ true → (a || b) ≡ true
    or_there true b e = refl
    or_there false b e = e

pub of_numbers : (f n m : ℕ) → among (InTemp m) (map InTemp (numbers f n)) ≡ true → (j : ℕ) × (j < n) × (m ≡ f + j)
of_numbers f zero m is = absurd (cc)
of_numbers f (suc n) m is = by (nat_eq m f) refl (λ e. of_numbers (f + 1) n m e)
  where
    by : (b : Bool) → nat_eq m f ≡ b → (among (InTemp m) (map InTemp (numbers (f + 1) n)) ≡ true → (j : ℕ) × (j < n) × (m ≡ f + 1 + j)) → (j : ℕ) × (j < suc n) × (m ≡ f + j)
    by true e rest = let same : m ≡ f = eqb-true m f e in (0, omega arith, omega arith)
    by false e rest =
        let found = rest (sym (ap (λ b. b || among (InTemp m) (map InTemp (numbers (f + 1) n))) e) ∙ is) in
        let low = found.1 in
        let same = found.2 in
        (suc found.0, omega arith, omega arith)

pub all_numbers : (t : Temps) (f n : ℕ) → ((j : ℕ) → j < n → is_kept t (f + j) ≡ true) → AllKept t (numbers f n)
all_numbers t f n h = λ m named. (let j = of_numbers f n m named in subst (λ (i : ℕ). is_kept t i ≡ true) (sym j.2) (h j.0 j.1))

-- What is behind a step that was made, in a later net.
module _ (s : Source) (p : Layout) (f : Flow) (at : ℕ) (n : Node) (ns : List Gates) (x : Before) (here : Arrival) (h : IsThere s p f at n ns x here) (ns' : List Gates) (g : Grown ns ns') where
  pub temps_behind : AreTemps ns' x.temps
  temps_behind = temps_grown ns ns' x.temps g h.gates.temps

  pub inputs_behind : p.bits ≤ input_count ns'
  inputs_behind = (let low = h.small.inputs in let same = g.inputs in omega arith)

  pub gates_behind : (st : Store) (on : Gate) (made : Made) → IsStepMade p ns' on st made → AreGates ns' (record x { store = st })
  gates_behind st on made m =
      let w = gates_grown ns ns' x g h.gates in
      record { store = m.below; temps = w.temps; ways = w.ways; splits = w.splits; fates = w.fates; result = w.result; blank = w.blank }

  pub made_behind : (st : Store) (on : Gate) (made : Made) → IsStepMade p ns' on st made → IsMade ns' (length x.fates.bads.items) made
  made_behind st on made m = subst (λ (k : ℕ). IsMade ns' k made) (sym h.stands.shape.locations) m.is_made

  pub few_behind : length x.fates.bads.items < 2 ^ 32
  few_behind = subst (λ (k : ℕ). k < 2 ^ 32) (sym h.stands.shape.locations) h.small.few

  pub here_behind : IsHere ns' here
  here_behind = record {
    ways = (let low = h.ways.ways in let more = g.longer in omega arith);
    gate = record {
      below = (let low = h.ways.gate.below in let more = g.longer in omega arith);
      value = λ choice v r. h.ways.gate.value choice v (g.runs choice v r);
    };
  }

pub small_grown : (p : Layout) (ns ns' : List Gates) → IsSmall p ns → Grown ns ns' → IsSmall p ns'
small_grown p ns ns' h g = record { few = h.few; inputs = (let low = h.inputs in let same = g.inputs in omega arith) }

-- behind a node that makes no step
pub past_by : (s : Source) (p : Layout) (f : Flow) (at : ℕ) (n : Node) (ns ns' : List Gates) (x y : Before) (here : Arrival) → GoesBy ns ns' n here x y → slice_get (nodes_of s f) at ≡ Some n
    → IsAt s p (nodes_of s f) at ns x here → IsBefore s p (nodes_of s f) (at + 1) ns' y
past_by s p f at n ns ns' x y here g is h = g.past s p (nodes_of s f) at is h

pub there_at : (s : Source) (p : Layout) (f : Flow) (at : ℕ) (n : Node) (ns : List Gates) (x : Before) (here : Arrival) → IsSmall p ns → AreGates ns x → IsHere ns here
    → slice_get (nodes_of s f) at ≡ Some n → IsAt s p (nodes_of s f) at ns x here → IsThere s p f at n ns x here
there_at s p f at n ns x here small gates ways is h = record { small = small; gates = gates; ways = ways; node = is; stands = h }
