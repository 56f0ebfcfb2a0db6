-- A node that makes a step and keeps its cells in a slot, from before it to behind it.
use Rattle.std.proofs.Common.{◌≡◌, ℕ, ◌+◌, ◌<◌, ◌≤◌, nat_eq, Bool, true, false, not, ◌&&◌, ◌||◌, if◌then◌else◌, Some, List, [], ◌∷◌, length, slice_get, refl, sym, ◌∙◌, ap, subst, arith}
use Rattle.std.proofs.lemmas.Bool.{ne_eqb, eqb-false}
use Rattle.bit_net.specs.declared.nodes.Node.{Node as Gates}
use Rattle.bit_net.specs.Runs.{Runs, Grown, Always}
use Rattle.gl_store.specs.declared.stores.Store.{Store}
use Rattle.gl_store.specs.Meets.{MeetsAll}
use Rattle.gate_runs.specs.Stands.{told}
use Rattle.run_store.specs.Concrete.{Cell, Place}
use Rattle.sc_world.specs.Source.{Source}
use Rattle.sc_world.specs.Layout.{Layout}
use Rattle.sc_world.specs.World.{bit_at}
use Rattle.gate_copies.specs.declared.readings.Reading.{Reading}
use Rattle.gate_inits.specs.Inits.{HaveCells}
use Rattle.flow_graph.specs.Nodes.{Node, Kept, slot, keep_cells}
use Rattle.flow_graph.specs.Conditions.{Held, InTemp, InSlot, among, kept_by, onward}
use Rattle.flow_graph.specs.Laws.{GoesOn}
use Rattle.flow_types.specs.Kinds as flow
use Rattle.flow_ways.specs.declared.ways.Ways.{Ways}
use Rattle.flow_ways.specs.Held.{held, AreSplits}
use Rattle.flow_ways.specs.Steps.{Comes}
use Rattle.flow_ends.specs.declared.fates.Fates.{Fates}
use Rattle.flow_ends.specs.Fates.{TellsStep}
use Rattle.flow_stages.specs.Stage.{Choice, unread}
use Rattle.flow_stages.proofs.ByKind.{step}
use Rattle.flow_stages.proofs.OfNodes.{nodes_are_at, nodes_go_on_at, asked_before}
use Rattle.flow_turns.specs.declared.before.Before.{Before}
use Rattle.flow_turns.specs.declared.before.Arrival.{Arrival}
use Rattle.flow_turns.specs.declared.temps.Temps.{Temps}
use Rattle.flow_turns.specs.Kept.{is_filled, HaveKept}
use Rattle.flow_turns.specs.Before.{IsHere, IsAt, IsBefore, seen, arrived}
use Rattle.flow_turns.specs.Steps.{WroteStore}
use Rattle.flow_turns.proofs.Past.{shape_grown}
use Rattle.flow_turns.proofs.Settling.{has_store, is_given, lands}
use Rattle.flow_turns.proofs.Settled.{state, wrote_is}
use Rattle.flow_fills.specs.declared.slots.Given.{Given}
use Rattle.flow_fills.specs.Slots.{KeepsIn, DoesGiving, DoesGivings, SettlesIn, cells_after}
use Rattle.flow_fills.proofs.KeptCells.{kept_on, kept_off, some_after, kinds_same}

-- one among a list of one
among_other : (slot j : ℕ) → nat_eq slot j ≡ false → among (InSlot j) (InSlot slot ∷ []) ≡ false
among_other slot j e = ap (λ b. b || false) (ne_eqb j slot (λ same. eqb-false slot j e (sym same)))

module _ (s : Source) (p : Layout) (nodes : List Node) (node : ℕ) (n : Node) (is : slice_get nodes node ≡ Some n) (ns ns1 ns2 : List Gates) (m next : ℕ) (here : Arrival) (x : Before) (st : Store) (given : Given) (f : Fates) (t : Temps) (w : Ways) where
  pub celled : Grown ns ns1 → Grown ns1 ns2 → IsHere ns1 here → AreSplits ns1 x.ways.splits.items
      → length given.ends.bads.items ≡ length x.fates.bads.items → length x.fates.touched.items ≡ length x.fates.bads.items → length f.bads.items ≡ length x.fates.bads.items
      → Always ns2 (λ choice v. TellsStep v st.locations.items given.on.at given.ends x.fates f)
      → t.vals ≡ x.temps.vals → t.sure ≡ x.temps.sure → t.kept ≡ x.temps.kept
      → KeepsIn ns2 here.gate.at m given.cells.items x.temps.slots.items t.slots.items → Comes next here.ways.items x.ways w
      → (h : IsAt s p nodes node ns x here) → DoesGivings s p h.kinds.temps nodes node ns1 n m next here x st.locations.items given
      → IsBefore s p nodes (node + 1) ns2 (record x { store = st; temps = t; fates = f; ways = w })
  celled g1 g2 gate splits each_end each_touched each_bad tells vals sure flags keeps comes h d =
      let cut = nodes_are_at nodes node n is in
      let y : Before = record x { store = st; temps = t; fates = f; ways = w } in
      record {
        kinds = h.kinds;
        fit = h.fit;
        shape = shape_grown s p h.kinds ns ns2 y grown (record {
          locations = each_bad ∙ h.shape.locations;
          kinds = d.same ∙ h.shape.kinds;
          temps = kinds_same s h.kinds ns2 here.gate.at m given.cells.items x.temps t vals flags keeps h.shape.temps;
          result = h.shape.result;
          blank = h.shape.blank;
        });
        tells = λ bits few v runs.
            (let runs1 = g2.runs (bit_at bits) v runs in
            let runs0 = g1.runs (bit_at bits) v runs1 in
            let c : Choice = record { source = s; layout = p; bits = bits } in
            let b = h.tells bits few v runs0 in
            let one = d.does bits few v runs1 in
            let old = arrived v p h.kinds node here x in
            let new = seen v p h.kinds y in
            let some = one.some b.other b.some in
            let stored = has_store c nodes (length p.locations) node old b.stage in
            let y0 = is_given v ns1 (bit_at bits) given.on.at one.begun given.ends x.store.locations.items st.locations.items (one.m b.other) (HaveCells v given.cells.items) runs1 one.began some stored.0 stored.1 in
            let count = length p.locations in
            let told_is = tells.holds (bit_at bits) v runs in
            let touched_count : length x.fates.touched.items ≡ length p.locations = each_touched ∙ h.shape.locations in
            let each : length given.ends.bads.items ≡ count = each_end ∙ h.shape.locations in
            record {
              stage = step c nodes count node n next one.m (λ a k. keep_cells m a k) (v here.gate.at) (v given.on.at) (v given.ends.live.at) (told v given.ends.bads.items)
                  (held v x.ways.waits.items) old new (HaveCells v given.cells.items) cut
                  (record { held = λ q. refl; gone = h.gone v })
                  (λ q. comes.held v (splits.all (bit_at bits) v runs1) q ∙ ap (λ b. held v x.ways.waits.items q || (nat_eq next q && b)) (sym (gate.gate.value (bit_at bits) v runs1)))
                  (record {
                    node = one.acts;
                    later = d.later node (length nodes) (nodes_go_on_at nodes node n is h.fit.on);
                    narrow = one.narrow;
                    wide = one.wide;
                    does = λ k kept. lands v ns1 (bit_at bits) given.on.at one.begun given.ends x.store.locations.items st.locations.items (one.m k) (HaveCells v given.cells.items) runs1 one.began (one.does k kept) count old new each (λ ps m. m) (λ ps m. m);
                    other = b.other;
                    does_other = lands v ns1 (bit_at bits) given.on.at one.begun given.ends x.store.locations.items st.locations.items (one.m b.other) (HaveCells v given.cells.items) runs1 one.began some count old new each (λ ps m. m) (λ ps m. m);
                    tells = record {
                      over = told_is.over;
                      bad = λ l l_low. told_is.bads l (subst (λ (i : ℕ). l < i) (sym h.shape.locations) l_low);
                      touched = λ ps is_stored l l_low. told_is.touched ps is_stored l (subst (λ (i : ℕ). l < i) (sym touched_count) l_low);
                      untouched = λ none l l_low. told_is.untouched none l (subst (λ (i : ℕ). l < i) (sym touched_count) l_low);
                    };
                    kept = λ k a kept on live good.
                        kept_on v p h.kinds.temps ns2 (bit_at bits) runs here.gate.at m given.cells.items x.temps t vals sure flags keeps
                        k b.other a (unread nodes node node) (unread nodes (node + 1) next) kept b.some good on
                        (λ j free. asked_before nodes node n (InTemp j) cut (ap (among (InTemp j)) d.keeps) (d.on_to (λ q. unread nodes (node + 1) q (InTemp j)) ∙ free))
                        (λ j e free. asked_before nodes node n (InSlot j) cut (ap (among (InSlot j)) d.keeps ∙ among_other m j e) (d.on_to (λ q. unread nodes (node + 1) q (InSlot j)) ∙ free));
                    temps = λ off has k free kept. kept_off v p h.kinds.temps ns2 (bit_at bits) runs here.gate.at m given.cells.items x.temps t vals sure flags keeps k free y0.0 y0.1 off kept;
                    gives = λ r m. m;
                  })
                  b.stage;
              other = keep_cells m (cells_after (is_filled x.temps.slots.items m) (v here.gate.at) (slot b.other m) y0.0) b.other;
              some = some_after v p h.kinds.temps ns2 (bit_at bits) runs here.gate.at m given.cells.items x.temps t vals sure flags keeps b.other y0.0 b.some y0.1;
              given = b.given;
              gives = b.gives;
            });
      }
    where
      grown : Grown ns ns2
      grown = record {
        longer = (let a = g1.longer in let b = g2.longer in omega arith);
        inputs = g2.inputs ∙ g1.inputs;
        runs = λ choice v r. g1.runs choice v (g2.runs choice v r);
      }

-- the same, told of the state behind the step
pub celled_from : (ns1 ns2 : List Gates) (m next : ℕ) (here : Arrival) (y : Before) (given : Given) (f : Fates) (t : Temps) (w : Ways)
    → Grown ns1 ns2 → IsHere ns1 here → AreSplits ns1 y.ways.splits.items
    → length given.ends.bads.items ≡ length y.fates.bads.items → length y.fates.touched.items ≡ length y.fates.bads.items → length f.bads.items ≡ length y.fates.bads.items
    → Always ns2 (λ choice v. TellsStep v y.store.locations.items given.on.at given.ends y.fates f)
    → t.vals ≡ y.temps.vals → t.sure ≡ y.temps.sure → t.kept ≡ y.temps.kept
    → KeepsIn ns2 here.gate.at m given.cells.items y.temps.slots.items t.slots.items → Comes next here.ways.items y.ways w
    → SettlesIn ns1 ns2 m next here given y (record y { temps = t; fates = f; ways = w })
celled_from ns1 ns2 m next here y given f t w g2 gate splits each_end each_touched each_bad tells vals sure flags keeps comes = record {
  past = λ s p nodes node n is ns g1 old wrote h d.
      (let from : (o : Before) → state old.store y.temps y.ways y.fates y.result y.blank ≡ o → (h : IsAt s p nodes node ns o here)
      → DoesGivings s p h.kinds.temps nodes node ns1 n m next here o y.store.locations.items given
      → IsBefore s p nodes (node + 1) ns2 (record y { temps = t; fates = f; ways = w }) =
      λ o e. subst
      (λ (o : Before). (h : IsAt s p nodes node ns o here) → DoesGivings s p h.kinds.temps nodes node ns1 n m next here o y.store.locations.items given
      → IsBefore s p nodes (node + 1) ns2 (record y { temps = t; fates = f; ways = w })) e
      (celled s p nodes node n is ns ns1 ns2 m next here (state old.store y.temps y.ways y.fates y.result y.blank) y.store given f t w
      g1 g2 gate splits each_end each_touched each_bad tells vals sure flags keeps comes) in
      from old (wrote_is old y wrote) h d);
}
