-- A node that sets the parts of a local, one after another, as a run does.
use Rattle.std.proofs.Common.{◌≡◌, ℕ, zero, suc, ◌+◌, ◌<◌, ◌≤◌, nat_eq, Bool, true, false, ◌&&◌, ◌||◌, if◌then◌else◌, Option, Some, None, List, [], ◌∷◌, map, drop, length, slice_get, slice_index_or, refl, sym, ◌∙◌, ap, subst, arith, add-one}
use Rattle.std.proofs.lemmas.Bool.{eq-eqb}
use Rattle.bit_net.specs.declared.nodes.Node.{Node as Gates}
use Rattle.bit_net.specs.Runs.{Runs, Grown}
use Rattle.gl_store.specs.declared.stores.Location.{Location}
use Rattle.gl_store.specs.Meets.{kinds, locations_top}
use Rattle.gate_runs.specs.declared.ends.Ends.{Ends}
use Rattle.gate_runs.specs.Stands.{Does, HasBegun, Any}
use Rattle.gate_runs.proofs.Bind.{bind, does_done}
use Rattle.run_store.specs.Concrete.{Cell}
use Rattle.sc_typed.specs.declared.stmt.TInitItem.{TInitItem}
use Rattle.sc_world.specs.declared.run.Origin.TheVariants as origin
use Rattle.sc_world.specs.Tree.{Given}
use Rattle.sc_world.specs.Source.{Source}
use Rattle.sc_world.specs.Layout.{Layout, location_of}
use Rattle.sc_world.specs.View.{given}
use Rattle.sc_world.specs.World.{World, Env, Run, ◌>>=◌, bit_at, done}
use Rattle.sc_world.specs.Eval.{cells_of}
use Rattle.sc_world.specs.Exec.{clear, part_at, set_part, set_parts}
use Rattle.gate_copies.specs.declared.readings.Reading.{Reading}
use Rattle.gate_copies.specs.Readings.{readings_top}
use Rattle.gate_places.specs.Places.{env_of}
use Rattle.gate_inits.specs.Inits.{HaveCells, DoesClear, DoesSetPart, Leaves}
use Rattle.flow_graph.specs.Nodes.{Node, Kept, Fill, slot, filled}
use Rattle.flow_graph.specs.Growing.{numbers}
use Rattle.flow_graph.specs.Conditions.{InSlot, among}
use Rattle.flow_types.specs.Kinds as flow
use Rattle.flow_stages.specs.Stage.{unread}
use Rattle.flow_stages.proofs.OfNodes.{nodes_are_at, reads_are_asked}
use Rattle.flow_turns.specs.declared.before.Before.{Before}
use Rattle.flow_turns.specs.declared.before.Arrival.{Arrival}
use Rattle.flow_turns.specs.declared.temps.Slot.{Slot}
use Rattle.flow_turns.specs.Kept.{cells_at, slots_top, HaveKept, HaveSome}
use Rattle.flow_turns.specs.Before.{IsAt}
use Rattle.flow_turns.specs.Steps.{DoesAct, DoesActs, GoesOnBy, WroteStore}
use Rattle.flow_fills.specs.Fills.{part_set, givens_of, HaveSlots, SetsPart, SetsParts, Fills}

-- The cells of a slot.

pub slot_high : (xs : List Slot) (k : ℕ) → length xs ≤ k → [] ≡ cells_at xs k
slot_high [] k high = refl
slot_high (y ∷ xs) zero high = absurd (omega (arith, high))
slot_high (y ∷ xs) (suc k) high = slot_high xs k (omega (arith, high))

pub slot_below : (xs : List Slot) (k : ℕ) → readings_top (cells_at xs k) ≤ slots_top xs
unfolding slots_top readings_top
slot_below [] k = omega arith
slot_below (x ∷ xs) zero = omega arith
slot_below (x ∷ xs) (suc k) = omega (arith, slot_below xs k)

-- One part.

pub item_set : (s : Source) (p : Layout) (ns : List Gates) (g : Ends) (object : ℕ) (items : List TInitItem) (slots : List Slot) (slot number : ℕ) (item : TInitItem) (part : Option ℕ) (cells : List Reading) (old new : List Location)
    → slice_get (givens_of s items) number ≡ Some (given s.structs item)
    → ((bits : List Bool) (temps : List Cell) (turn : ℕ) → part ≡ part_at (env_of s p bits temps turn) object item.way) → cells ≡ cells_at slots slot
    → DoesSetPart p ns g part cells old new → SetsPart s p ns g object items slots slot number old new
item_set s p ns g object items slots slot number item part cells old new is at are sets = record {
  top = sets.top;
  same = sets.same;
  does = λ choice v runs bits temps turn c have.
      subst (λ (x : Option Given). Does v old g (part_set (env_of s p bits temps turn) object x c) new g (Any {A = Unit {0}})) (sym is)
      (subst (λ (q : Option ℕ). Does v old g (set_part (env_of s p bits temps turn) q c) new g (Any {A = Unit {0}})) (at bits temps turn)
      (sets.does choice v runs s bits temps turn c (subst (λ (rs : List Reading). HaveCells v rs c) (sym are) have)));
}

pub item_none : (s : Source) (p : Layout) (ns : List Gates) (g : Ends) (object : ℕ) (items : List TInitItem) (slots : List Slot) (slot number : ℕ) (l : List Location)
    → slice_get (givens_of s items) number ≡ None → locations_top l ≤ length ns → SetsPart s p ns g object items slots slot number l l
item_none s p ns g object items slots slot number l is top = record {
  top = top;
  same = refl;
  does = λ choice v runs bits temps turn c have.
      subst (λ (x : Option Given). Does v l g (part_set (env_of s p bits temps turn) object x c) l g (Any {A = Unit {0}})) (sym is) (does_done v l g tt (Any {A = Unit {0}}) tt);
}

abbrev given_if : Source → Option TInitItem → Option Given
given_if s None = None
given_if s (Some x) = Some (given s.structs x)

pub given_at : (s : Source) (items : List TInitItem) (number : ℕ) (item : TInitItem) → slice_get items number ≡ Some item → slice_get (givens_of s items) number ≡ Some (given s.structs item)
given_at s [] zero item e = absurd (cc)
given_at s [] (suc n) item e = absurd (cc)
given_at s (x ∷ xs) zero item e = ap (given_if s) e
given_at s (x ∷ xs) (suc n) item e = given_at s xs n item e

pub given_none : (s : Source) (items : List TInitItem) (number : ℕ) → slice_get items number ≡ None → slice_get (givens_of s items) number ≡ None
given_none s [] zero e = refl
given_none s [] (suc n) e = refl
given_none s (x ∷ xs) zero e = absurd (cc)
given_none s (x ∷ xs) (suc n) e = given_none s xs n e

-- All parts.

none_set : (env : Env) (at : ℕ) (xs : List Given) → set_parts env at xs [] ≡ done tt
none_set env at [] = refl
none_set env at (x ∷ xs) = refl

none_left : (env : Env) (at : ℕ) (cs : List (List Cell)) → set_parts env at [] cs ≡ done tt
none_left env at cs = refl

got : (cs : List (List Cell)) (n : ℕ) → n < length cs → (c : List Cell) × (slice_get cs n ≡ Some c)
got [] n low = absurd (omega (arith, low))
got (c ∷ cs) zero low = (c, refl)
got (c ∷ cs) (suc n) low = got cs n (omega (arith, low))

module _ (v : ℕ → Bool) (g : Ends) (mid new final : List Location) (env : Env) (at : ℕ) where
  part_next : (number : ℕ) (xs : List Given) (cs : List (List Cell)) → number < length cs
      → ((c : List Cell) → slice_get cs number ≡ Some c → Does v mid g (part_set env at (slice_get xs number) c) new g (Any {A = Unit {0}}))
      → Does v new g (set_parts env at (drop (suc number) xs) (drop (suc number) cs)) final g (Any {A = Unit {0}})
      → Does v mid g (set_parts env at (drop number xs) (drop number cs)) final g (Any {A = Unit {0}})
  part_next number xs [] low one rest = absurd (omega (arith, low))
  part_next zero [] (c ∷ cs) low one rest = bind v mid new final g g g (done tt) (λ u. done tt) (Any {A = Unit {0}}) (Any {A = Unit {0}}) (one c refl) (λ u good. rest)
  part_next zero (x ∷ xs) (c ∷ cs) low one rest =
      bind v mid new final g g g (set_part env (part_at env at x.way) c) (λ u. set_parts env at xs cs) (Any {A = Unit {0}}) (Any {A = Unit {0}}) (one c refl) (λ u good. rest)
  part_next (suc n) [] (c ∷ cs) low one rest =
      bind v mid new final g g g (done tt) (λ u. done tt) (Any {A = Unit {0}}) (Any {A = Unit {0}})
      (let some = got cs n (omega (arith, low)) in one some.0 some.1) (λ u good. rest)
  part_next (suc n) (x ∷ xs) (c ∷ cs) low one rest = part_next n xs cs (omega (arith, low)) one rest

-- the first parts are set
pub record PartsSoFar (s : Source) (p : Layout) (ns : List Gates) (g : Ends) (object : ℕ) (items : List TInitItem) (slots : List Slot) (first count number : ℕ) (old mid : List Location) : Type 0 where
  pub top : locations_top mid ≤ length ns
  pub same : kinds mid ≡ kinds old
  pub leaves : (choice v : ℕ → Bool) → Runs ns choice v → (bits : List Bool) (temps : List Cell) (turn : ℕ) (cs : List (List Cell)) → HaveSlots v slots first count cs
      → Leaves v g old mid (set_parts (env_of s p bits temps turn) object (givens_of s items) cs)
      (set_parts (env_of s p bits temps turn) object (drop number (givens_of s items)) (drop number cs))

pub parts_none : (s : Source) (p : Layout) (ns : List Gates) (g : Ends) (object : ℕ) (items : List TInitItem) (slots : List Slot) (first count : ℕ) (l : List Location) → locations_top l ≤ length ns
    → PartsSoFar s p ns g object items slots first count 0 l l
parts_none s p ns g object items slots first count l top = record { top = top; same = refl; leaves = λ choice v runs bits temps turn cs have new d. d }

pub parts_more : (s : Source) (p : Layout) (n0 n1 : List Gates) (g : Ends) (object : ℕ) (items : List TInitItem) (slots : List Slot) (first count number : ℕ) (old mid new : List Location) → number < count
    → Grown n0 n1 → SetsPart s p n1 g object items slots (first + number) number mid new → PartsSoFar s p n0 g object items slots first count number old mid
    → PartsSoFar s p n1 g object items slots first count (number + 1) old new
parts_more s p n0 n1 g object items slots first count number old mid new low grown one so_far = record {
  top = one.top;
  same = one.same ∙ so_far.same;
  leaves = λ choice v runs bits temps turn cs have final rest.
      so_far.leaves choice v (grown.runs choice v runs) bits temps turn cs have final
      (part_next v g mid new final (env_of s p bits temps turn) object number (givens_of s items) cs (omega (arith, low, have.0))
      (λ c e. one.does choice v runs bits temps turn c (have.1 number c e))
      (subst (λ (n : ℕ). Does v new g (set_parts (env_of s p bits temps turn) object (drop n (givens_of s items)) (drop n cs)) final g (Any {A = Unit {0}})) (add-one number) rest));
}

past_all : {A : Type 0} (xs : List A) (n : ℕ) → length xs ≤ n → drop n xs ≡ []
past_all [] zero low = refl
past_all [] (suc n) low = refl
past_all (x ∷ xs) zero low = absurd (omega (arith, low))
past_all (x ∷ xs) (suc n) low = past_all xs n (omega (arith, low))

pub parts_whole : (s : Source) (p : Layout) (ns : List Gates) (g : Ends) (object : ℕ) (items : List TInitItem) (slots : List Slot) (first count number : ℕ) (old new : List Location) → number ≡ count
    → PartsSoFar s p ns g object items slots first count number old new → SetsParts s p ns g object items slots first count old new
parts_whole s p ns g object items slots first count number old new all so_far = record {
  top = so_far.top;
  same = so_far.same;
  does = λ choice v runs bits temps turn cs have.
      so_far.leaves choice v runs bits temps turn cs have new
      (subst (λ (m : Run (Unit {0})). Does v new g m new g (Any {A = Unit {0}}))
      (sym (ap (λ (ds : List (List Cell)). set_parts (env_of s p bits temps turn) object (drop number (givens_of s items)) ds) (past_all cs number (omega (arith, have.0, all)))
      ∙ none_set (env_of s p bits temps turn) object (drop number (givens_of s items))))
      (does_done v new g tt (Any {A = Unit {0}}) tt));
}

-- The node.

numbers_many : (first count : ℕ) → length (numbers first count) ≡ count
numbers_many first zero = refl
numbers_many first (suc n) = ap suc (numbers_many (first + 1) n)

map_many : {A B : Type 0} (f : A → B) (xs : List A) → length (map f xs) ≡ length xs
map_many f [] = refl
map_many f (x ∷ xs) = ap suc (map_many f xs)

abbrev cells_in : List Cell → Option (List Cell) → List Cell
cells_in d None = d
cells_in d (Some x) = x

slot_in : (k : Kept) (first count i : ℕ) (c : List Cell) → slice_get (map (slot k) (numbers first count)) i ≡ Some c → (c ≡ slot k (first + i)) × (i < count)
slot_in k first zero zero c e = absurd (cc)
slot_in k first zero (suc i) c e = absurd (cc)
slot_in k first (suc n) zero c e = (sym (ap (cells_in c) e) ∙ ap (slot k) (let same : first ≡ first + 0 = omega arith in same), omega arith)
slot_in k first (suc n) (suc i) c e =
    let h = slot_in k (first + 1) n i c e in
    (h.0 ∙ ap (slot k) (let same : first + 1 + i ≡ first + suc i = omega arith in same), omega (arith, h.1))

slot_among : (first count i : ℕ) → i < count → among (InSlot (first + i)) (map InSlot (numbers first count)) ≡ true
slot_among first zero i low = absurd (omega (arith, low))
slot_among first (suc n) zero low =
    ap (λ b. b || among (InSlot (first + 0)) (map InSlot (numbers (first + 1) n))) (eq-eqb (first + 0) first (omega arith))
slot_among first (suc n) (suc i) low =
    either (nat_eq (first + suc i) first) (among (InSlot (first + suc i)) (map InSlot (numbers (first + 1) n)))
    (ap (λ (j : ℕ). among (InSlot j) (map InSlot (numbers (first + 1) n))) (let same : first + suc i ≡ first + 1 + i = omega arith in same)
    ∙ slot_among (first + 1) n i (omega (arith, low)))
  where
    either : (a b : Bool) → b ≡ true → (a || b) ≡ true
    either true b e = refl
    either false b e = e

module _ (s : Source) (p : Layout) (ns ns1 ns2 ns' : List Gates) (location : ℕ) (items : List TInitItem) (first count next : ℕ) (here : Arrival) (old mid done' new : Before) (ends : Ends) where
  pub fill_node : Grown ns ns1 → Grown ns1 ns2 → HasBegun ns here.gate.at ends
      → DoesClear s p ns1 ends location old.store.locations.items mid.store.locations.items
      → SetsParts s p ns2 ends location items old.temps.slots.items first count mid.store.locations.items done'.store.locations.items
      → WroteStore old done' → GoesOnBy ns2 ns' next here here.gate.at ends done' new → Fills s p ns ns' location items first count next here old new
  fill_node g1 g2 began clears sets wrote h = record {
    past = λ nodes node m is there before.
        (let n = Fill m (givens_of s items) (numbers first count) next in
        h.past s p nodes node n is ns grown old wrote before
        (record {
          same = sets.same ∙ clears.same;
          keeps = refl;
          on_to = λ is_so. refl;
          later = λ at count h. h;
          does = λ bits few v runs.
              (let runs1 = g2.runs (bit_at bits) v runs in
              record {
                m = λ k. filled s p bits m (givens_of s items) (map (slot k) (numbers first count));
                acts = λ go k w. refl;
                begun = ends;
                began = record {
                  live = began.live;
                  asides = λ choice v r k. began.asides choice v (grown.runs choice v r) k;
                  bads = λ choice v r k. began.bads choice v (grown.runs choice v r) k;
                };
                narrow = λ off. off;
                wide = λ k kept here_on. here_on;
                does = λ k kept. at_local bits v runs runs1 m there k (
                  numbers_of k,
                  λ i c e.
                      (let f = slot_in k first count i c e in
                      subst (HaveCells v (cells_at old.temps.slots.items (first + i))) (sym f.0)
                      ((kept.slots (first + i) (reads_are_asked nodes node n (InSlot (first + i)) (nodes_are_at nodes node n is) (slot_among first count i f.1))).meets)),
                );
                some = λ k some. at_local bits v runs runs1 m there k (
                  numbers_of k,
                  λ i c e.
                      (let f = slot_in k first count i c e in
                      subst (HaveCells v (cells_at old.temps.slots.items (first + i))) (sym f.0) (some.cells (first + i))),
                );
              });
        }));
  }
    where
      grown : Grown ns ns2
      grown = record {
        longer = (let a = g1.longer in let b = g2.longer in omega arith);
        inputs = g2.inputs ∙ g1.inputs;
        runs = λ choice v r. g1.runs choice v (g2.runs choice v r);
      }

      numbers_of : (k : Kept) → length (map (slot k) (numbers first count)) ≡ count
      numbers_of k = map_many (slot k) (numbers first count) ∙ numbers_many first count

      at_local : (bits : List Bool) (v : ℕ → Bool) → Runs ns2 (bit_at bits) v → Runs ns1 (bit_at bits) v → (m : ℕ) → location_of p (origin.Local m) ≡ location → (k : Kept)
          → HaveSlots v old.temps.slots.items first count (map (slot k) (numbers first count))
          → Does v old.store.locations.items ends (filled s p bits m (givens_of s items) (map (slot k) (numbers first count))) done'.store.locations.items ends (Any {A = Unit {0}})
      at_local bits v runs runs1 m there k have =
          subst (λ (i : ℕ). Does v old.store.locations.items ends (clear (env_of s p bits [] 0) (cells_of p i) >>= λ u. set_parts (env_of s p bits [] 0) i (givens_of s items) (map (slot k) (numbers first count))) done'.store.locations.items ends (Any {A = Unit {0}}))
          (sym there)
          (bind v old.store.locations.items mid.store.locations.items done'.store.locations.items ends ends ends (clear (env_of s p bits [] 0) (cells_of p location))
          (λ u. set_parts (env_of s p bits [] 0) location (givens_of s items) (map (slot k) (numbers first count))) (Any {A = Unit {0}}) (Any {A = Unit {0}})
          (clears.does (bit_at bits) v runs1 bits [] 0) (λ u good. sets.does (bit_at bits) v runs bits [] 0 (map (slot k) (numbers first count)) have))
