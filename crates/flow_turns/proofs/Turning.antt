-- Nodes that make no step: what holds before each kind of them holds behind it.
use Rattle.std.proofs.Common.{◌≡◌, ℕ, zero, suc, ◌+◌, ◌≤◌, nat_eq, Bool, true, false, not, ◌&&◌, ◌||◌, if◌then◌else◌, Option, Some, None, List, [], ◌∷◌, length, slice_get, refl, sym, ◌∙◌, ap, subst, arith}
use Rattle.std.proofs.lemmas.Bool.{eq-eqb}
use Rattle.bit_net.specs.declared.nodes.Gate.{Gate}
use Rattle.bit_net.specs.declared.nodes.Node.{Node as Gates}
use Rattle.bit_net.specs.Runs.{Runs, Grown, Gives, Always}
use Rattle.gl_store.specs.declared.values.Val.{Val}
use Rattle.gl_store.specs.Meets.{Meets}
use Rattle.gl_store.specs.Steps.{IsOverwritten}
use Rattle.gate_runs.specs.Stands.{told}
use Rattle.run_store.specs.Concrete.{Cell, Kind, Numbers, Pointers, NoCell, Number, Pointer, Nothing, kind_of, put, blank}
use Rattle.run_laws.specs.Fits.{is_scalar}
use Rattle.sc_world.specs.declared.run.Reason.{Reason}
use Rattle.sc_world.specs.Tree.{Ty, Void, Bool', Int, Ptr, Array, Struct, Union, Func, Opaque, is_pointer, is_integer, is_void, int_bits}
use Rattle.sc_world.specs.Source.{Source}
use Rattle.sc_world.specs.Layout.{Layout}
use Rattle.sc_world.specs.World.{bit_at, kind_of_type}
use Rattle.sc_world.specs.Exec.{result_or}
use Rattle.flow_graph.specs.Nodes.{Node, Kept, temp, returned, Exit, SetAside}
use Rattle.flow_graph.specs.Conditions.{InTemp, among, read_by}
use Rattle.flow_types.specs.Kinds.{Kinds, ValueOf}
use Rattle.flow_types.specs.Nodes.{NodeFits, AllFit}
use Rattle.flow_ways.specs.declared.ways.Ways.{Ways}
use Rattle.flow_ways.specs.Held.{held, AreSplits}
use Rattle.flow_ways.specs.Steps.{Comes, Branches}
use Rattle.flow_ends.specs.declared.fates.Fates.{Fates}
use Rattle.flow_stages.specs.Stage.{View, unread}
use Rattle.flow_stages.specs.Laws.{SameEnds}
use Rattle.flow_stages.specs.NodeKinds.{MarkActs, BranchActs, mark_next, branching, passes}
use Rattle.flow_stages.proofs.ByKind.{mark_node, branch_node, exit_node, aside_node, dead_node}
use Rattle.flow_stages.proofs.OfNodes.{nodes_are_at, nodes_go_on_at, reads_are_asked, asked_before, marks_act, branches_act}
use Rattle.flow_turns.specs.declared.before.Before.{Before}
use Rattle.flow_turns.specs.declared.before.Arrival.{Arrival}
use Rattle.flow_turns.specs.Kept.{val_at, is_kept, HaveKept}
use Rattle.flow_turns.specs.Before.{IsHere, IsAt, GoesBy, ReadsNoVoid, drops, seen, arrived}
use Rattle.flow_turns.specs.Turns.{Anywhere, IsTest}
use Rattle.flow_turns.proofs.Past.{fewer, shape_grown, meets_kind, put_same}

-- what is not changed
same_ends : (count : ℕ) (old new : View) → new.over ≡ old.over → ((l : ℕ) → new.bad l ≡ old.bad l) → ((l : ℕ) → new.touched l ≡ old.touched l) → SameEnds count old new
same_ends count old new over bad touched = record { over = over; bad = λ l low. bad l; touched = λ l low. touched l }

-- An event.
pub marked : (ns : List Gates) (next : ℕ) (x : Before) (w : Ways) (here : Arrival) → AreSplits ns x.ways.splits.items → IsHere ns here → Comes next here.ways.items x.ways w
    → (n : Node) → mark_next n ≡ Some next → GoesBy ns ns n here x (record x { ways = w })
marked ns next x w here splits gate comes n is_mark = record {
  past = λ s p nodes node is h. (let cut = nodes_are_at nodes node n is in
      record {
        kinds = h.kinds;
        fit = h.fit;
        shape = record { locations = h.shape.locations; kinds = h.shape.kinds; temps = h.shape.temps; result = h.shape.result; blank = h.shape.blank };
        tells = λ bits few v runs.
            (let t = h.tells bits few v runs in
            let a : MarkActs s p bits n next = marks_act s p bits n next is_mark in
            let old = arrived v p h.kinds node here x in
            let new = seen v p h.kinds (record x { ways = w }) in
            record {
              stage = mark_node (record { source = s; layout = p; bits = bits }) nodes (length p.locations) node n (v here.gate.at) (held v x.ways.waits.items) old new cut
                  (record {
                    next = next;
                    after = a.after;
                    acts = a.acts;
                    places = a.places;
                    later = a.later node (length nodes) (nodes_go_on_at nodes node n is h.fit.on);
                    before = record { held = λ q. refl; gone = h.gone v };
                    goes = λ q. comes.held v (splits.all (bit_at bits) v runs) q ∙ ap (λ b. held v x.ways.waits.items q || (nat_eq next q && b)) (sym (gate.gate.value (bit_at bits) v runs));
                    same = record {
                      ends = same_ends (length p.locations) old new refl (λ l. refl) (λ l. refl);
                      store = λ ps m. m;
                      temps = λ k free m. m;
                      gives = λ r m. m;
                    };
                    temps = λ k. fewer v p h.kinds.temps x.temps k (unread nodes node node) (unread nodes (node + 1) next)
                        (λ m e. asked_before nodes node n m cut (a.keeps m) (a.on (λ q. unread nodes (node + 1) q m) ∙ e));
                  })
                  t.stage;
              other = t.other;
              some = t.some;
              given = t.given;
              gives = t.gives;
            });
      });
}

both_false : (a b : Bool) → a ≡ false → (a && b) ≡ false
both_false a b e = ap (λ c. c && b) e

both_false' : (a b : Bool) → b ≡ false → (a && b) ≡ false
both_false' true b e = e
both_false' false b e = refl

no_drop : (from : ℕ) (number : Option ℕ) (hit miss : ℕ) → drops (branching from number hit miss) ≡ false
no_drop from None hit miss = refl
no_drop from (Some n) hit miss = refl

-- A branch.
pub branched : (ns ns1 ns2 : List Gates) (from : ℕ) (number : Option ℕ) (hit miss : ℕ) (x : Before) (w : Ways) (here : Arrival) (test : ℕ)
    → Grown ns ns1 → Grown ns1 ns2 → IsHere ns here → IsTest ns1 number (val_at x.temps from) test
    → Always ns2 (λ choice v. Branches v here.ways.items test hit miss x.ways.waits.items w.waits.items)
    → GoesBy ns ns2 (branching from number hit miss) here x (record x { ways = w })
branched ns ns1 ns2 from number hit miss x w here test g1 g2 gate tests goes = record {
  past = λ s p nodes node is h. (let n = branching from number hit miss in
      let cut = nodes_are_at nodes node n is in
      record {
        kinds = h.kinds;
        fit = h.fit;
        shape = shape_grown s p h.kinds ns ns2 (record x { ways = w }) (both g1 g2)
            (record { locations = h.shape.locations; kinds = h.shape.kinds; temps = h.shape.temps; result = h.shape.result; blank = h.shape.blank });
        tells = λ bits few v runs.
            (let runs1 = g2.runs (bit_at bits) v runs in
            let runs0 = g1.runs (bit_at bits) v runs1 in
            let t = h.tells bits few v runs0 in
            let a : BranchActs s p bits from number hit miss = branches_act s p bits from number hit miss in
            let old = arrived v p h.kinds node here x in
            let new = seen v p h.kinds (record x { ways = w }) in
            let later = a.later node (length nodes) (nodes_go_on_at nodes node n is h.fit.on) in
            record {
              stage = branch_node (record { source = s; layout = p; bits = bits }) nodes (length p.locations) node n (v here.gate.at) (held v x.ways.waits.items) old new cut
                  (record {
                    hit = hit;
                    miss = miss;
                    is_so = λ k. passes number (temp k from);
                    test = v test;
                    acts = a.acts;
                    later_hit = later.0;
                    later_miss = later.1;
                    before = record { held = λ q. refl; gone = h.gone v };
                    goes = λ q. (goes.holds (bit_at bits) v runs).held q
                        ∙ ap (λ b. held v x.ways.waits.items q || (nat_eq hit q && (b && v test)) || (nat_eq miss q && (b && not (v test)))) (sym (gate.gate.value (bit_at bits) v runs0));
                    same = record {
                      ends = same_ends (length p.locations) old new refl (λ l. refl) (λ l. refl);
                      store = λ ps m. m;
                      temps = λ k free m. m;
                      gives = λ r m. m;
                    };
                    tests = λ k m on. tests.value (bit_at bits) v runs1 (temp k from) (m.temps from (reads_are_asked nodes node n (InTemp from) cut a.reads) (h.fit.void node from n is (no_drop from number hit miss) a.reads)).meets;
                    on_hit = λ k. fewer v p h.kinds.temps x.temps k (unread nodes node node) (unread nodes (node + 1) hit)
                        (λ m e. asked_before nodes node n m cut (a.keeps m) (a.on (λ q. unread nodes (node + 1) q m) ∙ both_false (unread nodes (node + 1) hit m) (unread nodes (node + 1) miss m) e));
                    on_miss = λ k. fewer v p h.kinds.temps x.temps k (unread nodes node node) (unread nodes (node + 1) miss)
                        (λ m e. asked_before nodes node n m cut (a.keeps m) (a.on (λ q. unread nodes (node + 1) q m) ∙ both_false' (unread nodes (node + 1) hit m) (unread nodes (node + 1) miss m) e));
                  })
                  t.stage;
              other = t.other;
              some = t.some;
              given = t.given;
              gives = t.gives;
            });
      });
}
  where
    both : Grown ns ns1 → Grown ns1 ns2 → Grown ns ns2
    both a b = record {
      longer = (let la = a.longer in let lb = b.longer in omega arith);
      inputs = b.inputs ∙ a.inputs;
      runs = λ choice v r. a.runs choice v (b.runs choice v r);
    }

-- The function's end: what it gives is written over what it gave, where the walk is there.
module _ (ns ns' : List Gates) (x : Before) (r : Val) (here : Arrival) (from : Option ℕ) (val : Val) (g : Grown ns ns') (gate : IsHere ns here) (w : IsOverwritten ns' here.gate.at x.result val r) where
  -- `due` is what a run gives there, and the value has it; and it has something in any case
  abbrev Due : Type 0
  Due = (s : Source) (p : Layout) (nodes : List Node) (node : ℕ) → slice_get nodes node ≡ Some (Exit from) → (h : IsAt s p nodes node ns x here)
      → (bits : List Bool) → length bits ≤ p.bits → (v : ℕ → Bool) → Runs ns (bit_at bits) v
      → ((y : Cell) × Meets v val y)
      × ((k : Kept) → HaveKept v p h.kinds.temps x.temps k (unread nodes node node) → Meets v val (returned s p bits k from) × (kind_of (returned s p bits k from) ≡ kind_of_type s (Some s.result)))

  when_on : (v : ℕ → Bool) (y z : Cell) → v here.gate.at ≡ true → Meets v r (if v here.gate.at then y else z) → Meets v r y
  when_on v y z e m = subst (λ (b : Bool). Meets v r (if b then y else z)) e m

  when_off : (v : ℕ → Bool) (y z : Cell) → v here.gate.at ≡ false → Meets v r (if v here.gate.at then y else z) → Meets v r z
  when_off v y z e m = subst (λ (b : Bool). Meets v r (if b then y else z)) e m

  pub exited : Due → GoesBy ns ns' (Exit from) here x (record x { result = r })
  exited due = record {
    past = λ s p nodes node is h. (let cut = nodes_are_at nodes node (Exit from) is in
        record {
          kinds = h.kinds;
          fit = h.fit;
          shape = shape_grown s p h.kinds ns ns' (record x { result = r }) g
              (record { locations = h.shape.locations; kinds = h.shape.kinds; temps = h.shape.temps; result = w.kind ∙ h.shape.result; blank = h.shape.blank });
          tells = λ bits few v runs.
              (let runs0 = g.runs (bit_at bits) v runs in
              let t = h.tells bits few v runs0 in
              let d = due s p nodes node is h bits few v runs0 in
              let old = arrived v p h.kinds node here x in
              let new = seen v p h.kinds (record x { result = r }) in
              record {
                stage = exit_node (record { source = s; layout = p; bits = bits }) nodes (length p.locations) node (Exit from) (v here.gate.at) (held v x.ways.waits.items) old new cut
                    (record {
                      gives = λ k. returned s p bits k from;
                      acts = λ go k w. refl;
                      before = record { held = λ q. refl; gone = h.gone v };
                      goes = λ q. refl;
                      same = same_ends (length p.locations) old new refl (λ l. refl) (λ l. refl);
                      store = λ ps m. m;
                      temps = λ k free m. m;
                      rests = λ off c m. when_off v (put c d.0.0) c off (w.value (bit_at bits) v runs c d.0.0 m d.0.1);
                      given = λ k m on.
                          (let y = returned s p bits k from in
                          let e = d.1 k m in
                          let same : kind_of t.given ≡ kind_of y = meets_kind v x.result t.given t.gives ∙ (h.shape.result ∙ sym e.1) in
                          subst (Meets v r) (put_same t.given y same) (when_on v (put t.given y) t.given on (w.value (bit_at bits) v runs t.given y t.gives e.0)));
                    })
                    t.stage;
                other = t.other;
                some = t.some;
                given = if v here.gate.at then put t.given d.0.0 else t.given;
                gives = w.value (bit_at bits) v runs t.given d.0.0 t.gives d.0.1;
              });
        });
  }

kind_of_blank : (k : Kind) → kind_of (blank k) ≡ k
kind_of_blank (Numbers n) = refl
kind_of_blank Pointers = refl
kind_of_blank NoCell = refl

pub exited_without : (ns ns' : List Gates) (x : Before) (r : Val) (here : Arrival) → Grown ns ns' → IsHere ns here → IsOverwritten ns' here.gate.at x.result x.blank r
    → GoesBy ns ns' (Exit None) here x (record x { result = r })
exited_without ns ns' x r here g gate w =
    exited ns ns' x r here None x.blank g gate w
    (λ s p nodes node is h bits few v runs. (let m = h.shape.blank.value (bit_at bits) v runs in ((blank (kind_of_type s (Some s.result)), m), λ k kept. (m, kind_of_blank (kind_of_type s (Some s.result))))))

-- what has the kind of a number or a pointer is given as it is
given_as : (s : Source) (t : Ty) (c : Cell) → is_scalar t ≡ true → kind_of c ≡ kind_of_type s (Some t) → result_or s c ≡ c
given_as s t (Number w n) scalar e = refl
given_as s t (Pointer a) scalar e = refl
given_as s t Nothing scalar e = absurd (no_cell (is_pointer t) (is_integer t) scalar e)
  where
    no_cell : (a b : Bool) → (b || a) ≡ true → NoCell ≡ (if a then Pointers else (if b then Numbers (int_bits s.widths t) else NoCell)) → ⊥
    no_cell true b h e = cc
    no_cell false true h e = cc
    no_cell false false h e = cc

abbrev some_or : Node → Option Node → Node
some_or x None = x
some_or x (Some z) = z

pub fits_at : (s : Source) (p : Layout) (k : Kinds) (ns : List Node) (at : ℕ) (n : Node) → slice_get ns at ≡ Some n → AllFit s p k ns → NodeFits s p k n
fits_at s p k [] zero n e h = absurd (cc)
fits_at s p k [] (suc at) n e h = absurd (cc)
fits_at s p k (x ∷ xs) zero n e h = subst (NodeFits s p k) (ap (some_or x) e) h.0
fits_at s p k (x ∷ xs) (suc at) n e h = fits_at s p k xs at n e h.1

scalar_some : (t : Ty) → is_scalar t ≡ true → is_void t ≡ false
scalar_some Void e = absurd (cc)
scalar_some Bool' e = refl
scalar_some (Int k) e = refl
scalar_some (Ptr t) e = refl
scalar_some (Array t n) e = refl
scalar_some (Struct n) e = refl
scalar_some (Union n) e = refl
scalar_some (Func r known ts more) e = refl
scalar_some (Opaque n) e = refl

pub exited_with : (ns ns' : List Gates) (x : Before) (r : Val) (here : Arrival) (from : ℕ) → Grown ns ns' → IsHere ns here
    → IsOverwritten ns' here.gate.at x.result (val_at x.temps from) r
    → GoesBy ns ns' (Exit (Some from)) here x (record x { result = r })
exited_with ns ns' x r here from g gate w = exited ns ns' x r here (Some from) (val_at x.temps from) g gate w due
  where
    due : (s : Source) (p : Layout) (nodes : List Node) (node : ℕ) → slice_get nodes node ≡ Some (Exit (Some from)) → (h : IsAt s p nodes node ns x here)
        → (bits : List Bool) → length bits ≤ p.bits → (v : ℕ → Bool) → Runs ns (bit_at bits) v
        → ((y : Cell) × Meets v (val_at x.temps from) y)
        × ((k : Kept) → HaveKept v p h.kinds.temps x.temps k (unread nodes node node) → Meets v (val_at x.temps from) (returned s p bits k (Some from)) × (kind_of (returned s p bits k (Some from)) ≡ kind_of_type s (Some s.result)))
    due s p nodes node is h bits few v runs =
        let t = h.tells bits few v runs in
        let cut = nodes_are_at nodes node (Exit (Some from)) is in
        let scalar = h.fit.scalar node from is in
        let read : among (InTemp from) (read_by (Exit (Some from))) ≡ true = ap (λ b. b || false) (eq-eqb from from refl) in (
          (temp t.other from, t.some.meets from),
          λ k kept.
              (let m = kept.temps from (reads_are_asked nodes node (Exit (Some from)) (InTemp from) cut read) (h.fit.void node from (Exit (Some from)) is refl read) in
              let fits = fits_at s p h.kinds nodes node (Exit (Some from)) is h.fit.types in
              let kind : kind_of (temp k from) ≡ kind_of_type s (Some s.result) =
              meets_kind v (val_at x.temps from) (temp k from) m.meets
              ∙ (h.shape.temps.each from (ValueOf s.result) fits m.kept (scalar_some s.result scalar)
              ∙ ap (λ (b : Bool). if b then kind_of_type s (Some s.result) else Pointers) scalar) in
              let same : result_or s (temp k from) ≡ temp k from = given_as s s.result (temp k from) scalar kind in
              (subst (Meets v (val_at x.temps from)) (sym same) m.meets, ap kind_of same ∙ kind)),
        )

-- The walk is set aside.
pub asided : (ns ns' : List Gates) (x : Before) (f : Fates) (w : Ways) (here : Arrival) → Grown ns ns' → IsHere ns here → AreSplits ns x.ways.splits.items
    → Gives ns' f.over.at (λ choice v. v x.fates.over.at || v here.gate.at) → f.bads.items ≡ x.fates.bads.items → f.stopped ≡ x.fates.stopped
    → f.touched.items ≡ x.fates.touched.items
    → Anywhere here.ways.items x.ways w → (r : Reason) → GoesBy ns ns' (SetAside r) here x (record x { fates = f; ways = w })
asided ns ns' x f w here g gate splits over bads stopped touched anywhere r = record {
  past = λ s p nodes node is h. (let cut = nodes_are_at nodes node (SetAside r) is in
      record {
        kinds = h.kinds;
        fit = h.fit;
        shape = shape_grown s p h.kinds ns ns' (record x { fates = f; ways = w }) g
            (record { locations = ap length bads ∙ h.shape.locations; kinds = h.shape.kinds; temps = h.shape.temps; result = h.shape.result; blank = h.shape.blank });
        tells = λ bits few v runs.
            (let runs0 = g.runs (bit_at bits) v runs in
            let t = h.tells bits few v runs0 in
            let old = arrived v p h.kinds node here x in
            let new = seen v p h.kinds (record x { fates = f; ways = w }) in
            record {
              stage = aside_node (record { source = s; layout = p; bits = bits }) nodes (length p.locations) node (SetAside r) (v here.gate.at) (held v x.ways.waits.items) old new cut
                  (record {
                    reason = r;
                    acts = λ go k w. refl;
                    before = record { held = λ q. refl; gone = h.gone v };
                    goes = λ off q low. anywhere.held v (splits.all (bit_at bits) v runs0) (sym (gate.gate.value (bit_at bits) v runs0) ∙ off) q;
                    over = over.value (bit_at bits) v runs;
                    bad = λ l low. ap (λ gs. told v gs l) bads;
                    touched = λ l low. ap (λ gs. v f.stopped.at && told v gs l) touched ∙ ap (λ (g : Gate). v g.at && told v x.fates.touched.items l) stopped;
                    store = λ ps m. m;
                    temps = λ k free m. m;
                    gives = λ r m. m;
                  })
                  t.stage;
              other = t.other;
              some = t.some;
              given = t.given;
              gives = t.gives;
            });
      });
}

-- No walk comes to the node: `never` says so in each choice.
passed : (ns : List Gates) (x : Before) (here : Arrival) (n : Node)
    → ((s : Source) (p : Layout) (nodes : List Node) (node : ℕ) → slice_get nodes node ≡ Some n → (kinds : Kinds) → ReadsNoVoid kinds nodes
    → (bits : List Bool) (v : ℕ → Bool) → Runs ns (bit_at bits) v → (k : Kept) → HaveKept v p kinds.temps x.temps k (unread nodes node node) → v here.gate.at ≡ true → ⊥)
    → GoesBy ns ns n here x x
passed ns x here n never = record {
  past = λ s p nodes node is h. (let cut = nodes_are_at nodes node n is in
      record {
        kinds = h.kinds;
        fit = h.fit;
        shape = h.shape;
        tells = λ bits few v runs.
            (let t = h.tells bits few v runs in
            let old = arrived v p h.kinds node here x in
            let new = seen v p h.kinds x in
            record {
              stage = dead_node (record { source = s; layout = p; bits = bits }) nodes (length p.locations) node n (v here.gate.at) (held v x.ways.waits.items) old new cut
                  (record {
                    before = record { held = λ q. refl; gone = h.gone v };
                    goes = λ off q low. refl;
                    same = record {
                      ends = same_ends (length p.locations) old new refl (λ l. refl) (λ l. refl);
                      store = λ ps m. m;
                      temps = λ k free m. m;
                      gives = λ r m. m;
                    };
                    never = never s p nodes node is h.kinds h.fit.void bits v runs;
                  })
                  t.stage;
              other = t.other;
              some = t.some;
              given = t.given;
              gives = t.gives;
            });
      });
}

two_sides : (b : Bool) → b ≡ false → b ≡ true → ⊥
two_sides true e f = cc
two_sides false e f = cc

pub passed_never : (ns : List Gates) (x : Before) (here : Arrival) → Always ns (λ choice v. v here.gate.at ≡ false) → (n : Node) → GoesBy ns ns n here x x
passed_never ns x here off n = passed ns x here n (λ s p nodes node is kinds void bits v runs k m on. two_sides (v here.gate.at) (off.holds (bit_at bits) v runs) on)

pub passed_unread : (ns : List Gates) (x : Before) (here : Arrival) (m : ℕ) → is_kept x.temps m ≡ false → (n : Node) → drops n ≡ false → among (InTemp m) (read_by n) ≡ true → GoesBy ns ns n here x x
passed_unread ns x here m none n other read =
    passed ns x here n (λ s p nodes node is kinds void bits v runs k h on. two_sides (is_kept x.temps m) none (h.temps m (reads_are_asked nodes node n (InTemp m) (nodes_are_at nodes node n is) read) (void node m n is other read)).kept)
