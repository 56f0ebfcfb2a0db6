-- What is asked of nodes holds of them when their ends give no value.
use Rattle.std.proofs.Common.{◌≡◌, ℕ, suc, nat_eq, Bool, true, false, not, ◌&&◌, ◌||◌, if◌then◌else◌, List, [], ◌∷◌, length, map, refl, ◌∙◌, ap, arith}
use Rattle.sc_world.specs.Source.{Source}
use Rattle.sc_world.specs.Layout.{Layout}
use Rattle.flow_graph.specs.Nodes.{Node, Keep, KeepCells, CallOf, Update, Set, Fill, Branch, Choose, Mark, MarkSwitch, Exit, SetAside}
use Rattle.flow_graph.specs.Conditions.{Held, AllFine, IsFine, among, read_by, kept_by, kept_at, kept_first}
use Rattle.flow_graph.specs.Laws.{GoesOn, AllGoOn}
use Rattle.flow_types.specs.Kinds.{Kinds}
use Rattle.flow_types.specs.Nodes.{NodeFits, AllFit}
use Rattle.flow_exits.specs.Exits.{is_given, all_give_nothing, without_value}
use Rattle.flow_exits.specs.Laws.{Stay}

many : (ns : List Node) → length (map without_value ns) ≡ length ns
many [] = refl
many (n ∷ ns) = omega (arith, many ns)

goes_on : (at count : ℕ) (n : Node) → GoesOn at count n → GoesOn at count (without_value n)
goes_on at count (Keep want t e next) h = h
goes_on at count (KeepCells n e next) h = h
goes_on at count (CallOf c args t next) h = h
goes_on at count (Update u want place old right t next) h = h
goes_on at count (Set n e next) h = h
goes_on at count (Fill n xs slots next) h = h
goes_on at count (Branch t hit miss) h = h
goes_on at count (Choose t n hit miss) h = h
goes_on at count (Mark q x next) h = h
goes_on at count (MarkSwitch q t from next) h = h
goes_on at count (Exit from) h = tt
goes_on at count (SetAside r) h = h

all_go_on : (first count : ℕ) (ns : List Node) → AllGoOn first count ns → AllGoOn first count (map without_value ns)
all_go_on first count [] h = tt
all_go_on first count (n ∷ ns) h = (goes_on first count n h.0, all_go_on (suc first) count ns h.1)

is_fine : (temps slots : ℕ) (n : Node) → IsFine temps slots n → IsFine temps slots (without_value n)
is_fine temps slots (Keep want t e next) h = h
is_fine temps slots (KeepCells n e next) h = h
is_fine temps slots (CallOf c args t next) h = h
is_fine temps slots (Update u want place old right t next) h = h
is_fine temps slots (Set n e next) h = h
is_fine temps slots (Fill n xs slots' next) h = h
is_fine temps slots (Branch t hit miss) h = h
is_fine temps slots (Choose t n hit miss) h = h
is_fine temps slots (Mark q x next) h = h
is_fine temps slots (MarkSwitch q t from next) h = h
is_fine temps slots (Exit from) h = record { reads = tt; keeps = tt; plain = refl }
is_fine temps slots (SetAside r) h = h

all_fine : (temps slots : ℕ) (ns : List Node) → AllFine temps slots ns → AllFine temps slots (map without_value ns)
all_fine temps slots [] h = tt
all_fine temps slots (n ∷ ns) h = (is_fine temps slots n h.0, all_fine temps slots ns h.1)

node_fits : (s : Source) (p : Layout) (k : Kinds) (n : Node) → NodeFits s p k n → NodeFits s p k (without_value n)
node_fits s p k (Keep want t e next) h = h
node_fits s p k (KeepCells n e next) h = h
node_fits s p k (CallOf c args t next) h = h
node_fits s p k (Update u want place old right t next) h = h
node_fits s p k (Set n e next) h = h
node_fits s p k (Fill n xs slots next) h = h
node_fits s p k (Branch t hit miss) h = h
node_fits s p k (Choose t n hit miss) h = h
node_fits s p k (Mark q x next) h = h
node_fits s p k (MarkSwitch q t from next) h = h
node_fits s p k (Exit from) h = tt
node_fits s p k (SetAside r) h = h

all_fit : (s : Source) (p : Layout) (k : Kinds) (ns : List Node) → AllFit s p k ns → AllFit s p k (map without_value ns)
all_fit s p k [] h = tt
all_fit s p k (n ∷ ns) h = (node_fits s p k n h.0, all_fit s p k ns h.1)

-- What is read was kept: a node asks for no more than before.

so_both : (a b a' b' : Bool) → (a ≡ true → a' ≡ true) → (b ≡ true → b' ≡ true) → (a && b) ≡ true → (a' && b') ≡ true
so_both true true a' b' f g h = ap (λ x. x && b') (f refl) ∙ g refl
so_both true false a' b' f g h = absurd (cc)
so_both false b a' b' f g h = absurd (cc)

so_behind : (r k b b' : Bool) → (b ≡ true → b' ≡ true) → (not r && (k || b)) ≡ true → (not r && (k || b')) ≡ true
so_behind false true b b' f h = refl
so_behind false false b b' f h = f h
so_behind true k b b' f h = absurd (cc)

module _ (m : Held) (so so' : ℕ → Bool) (onward : (at : ℕ) → so at ≡ true → so' at ≡ true) where
  kept : (n : Node) → kept_at m n so ≡ true → kept_at m (without_value n) so' ≡ true
  kept (Keep want t e next) h =
      let node = Keep want t e next in
      so_behind (among m (read_by node)) (among m (kept_by node)) (so next) (so' next) (onward next) h
  kept (KeepCells n e next) h =
      let node = KeepCells n e next in
      so_behind (among m (read_by node)) (among m (kept_by node)) (so next) (so' next) (onward next) h
  kept (CallOf c args t next) h =
      let node = CallOf c args t next in
      so_behind (among m (read_by node)) (among m (kept_by node)) (so next) (so' next) (onward next) h
  kept (Update u want place old right t next) h =
      let node = Update u want place old right t next in
      so_behind (among m (read_by node)) (among m (kept_by node)) (so next) (so' next) (onward next) h
  kept (Set n e next) h =
      let node = Set n e next in
      so_behind (among m (read_by node)) (among m (kept_by node)) (so next) (so' next) (onward next) h
  kept (Fill n xs slots next) h =
      let node = Fill n xs slots next in
      so_behind (among m (read_by node)) (among m (kept_by node)) (so next) (so' next) (onward next) h
  kept (Branch t hit miss) h =
      let node = Branch t hit miss in
      so_behind (among m (read_by node)) (among m (kept_by node)) (so hit && so miss) (so' hit && so' miss) (so_both (so hit) (so miss) (so' hit) (so' miss) (onward hit) (onward miss)) h
  kept (Choose t n hit miss) h =
      let node = Choose t n hit miss in
      so_behind (among m (read_by node)) (among m (kept_by node)) (so hit && so miss) (so' hit && so' miss) (so_both (so hit) (so miss) (so' hit) (so' miss) (onward hit) (onward miss)) h
  kept (Mark q x next) h =
      let node = Mark q x next in
      so_behind (among m (read_by node)) (among m (kept_by node)) (so next) (so' next) (onward next) h
  kept (MarkSwitch q t from next) h =
      let node = MarkSwitch q t from next in
      so_behind (among m (read_by node)) (among m (kept_by node)) (so next) (so' next) (onward next) h
  kept (Exit from) h = refl
  kept (SetAside r) h = h

so_either : (b a c a' c' : Bool) → (a ≡ true → a' ≡ true) → (c ≡ true → c' ≡ true) → (if b then a else c) ≡ true → (if b then a' else c') ≡ true
so_either true a c a' c' f g h = f h
so_either false a c a' c' f g h = g h

all_kept : (m : Held) (first : ℕ) (ns : List Node) (at : ℕ) → kept_first m first ns at ≡ true → kept_first m first (map without_value ns) at ≡ true
all_kept m first [] at h = refl
all_kept m first (n ∷ ns) at h =
    so_either (nat_eq at first) (kept_at m n (kept_first m (suc first) ns)) (kept_first m (suc first) ns at)
    (kept_at m (without_value n) (kept_first m (suc first) (map without_value ns))) (kept_first m (suc first) (map without_value ns) at)
    (kept m (kept_first m (suc first) ns) (kept_first m (suc first) (map without_value ns)) (λ k. all_kept m (suc first) ns k) n) (all_kept m (suc first) ns at) h

-- the nodes, whichever they are
either_way : (P : List Node → Type 0) (b : Bool) (xs ys : List Node) → (P ys → P xs) → P ys → P (if b then xs else ys)
either_way P true xs ys f h = f h
either_way P false xs ys f h = h

pub stay : (p : Layout) (nodes : List Node) → Stay p nodes
stay p nodes =
    let b = all_give_nothing p (is_given nodes) nodes in
    let new = map without_value nodes in
    record {
      count = either_way (λ ns. length ns ≡ length nodes) b new nodes (λ h. many nodes) refl;
      on = λ first count h. either_way (AllGoOn first count) b new nodes (all_go_on first count nodes) h;
      fine = λ temps slots h. either_way (AllFine temps slots) b new nodes (all_fine temps slots nodes) h;
      kept = λ m first at h. either_way (λ ns. kept_first m first ns at ≡ true) b new nodes (all_kept m first nodes at) h;
      fit = λ s k h. either_way (AllFit s p k) b new nodes (all_fit s p k nodes) h;
    }
