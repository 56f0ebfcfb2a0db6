-- A node that makes a step and keeps nothing, from before it to behind it.
use Rattle.std.proofs.Common.{◌≡◌, ℕ, ◌+◌, ◌<◌, nat_eq, ◌&&◌, ◌||◌, Some, List, length, slice_get, refl, sym, ◌∙◌, ap, subst, arith}
use Rattle.bit_net.specs.declared.nodes.Node.{Node as Gates}
use Rattle.bit_net.specs.Runs.{Grown, Always}
use Rattle.gl_store.specs.declared.stores.Store.{Store}
use Rattle.gate_runs.specs.declared.ends.Ends.{Ends}
use Rattle.gate_runs.specs.Stands.{told, Any}
use Rattle.sc_world.specs.Source.{Source}
use Rattle.sc_world.specs.Layout.{Layout}
use Rattle.sc_world.specs.World.{bit_at}
use Rattle.flow_graph.specs.Nodes.{Node}
use Rattle.flow_graph.specs.Conditions.{among}
use Rattle.flow_ways.specs.declared.ways.Ways.{Ways}
use Rattle.flow_ways.specs.Held.{held, AreSplits}
use Rattle.flow_ways.specs.Steps.{Comes}
use Rattle.flow_ends.specs.declared.fates.Fates.{Fates}
use Rattle.flow_ends.specs.Fates.{TellsStep}
use Rattle.flow_stages.specs.Stage.{Choice, unread}
use Rattle.flow_stages.proofs.ByKind.{step}
use Rattle.flow_stages.proofs.OfNodes.{nodes_are_at, nodes_go_on_at, asked_before}
use Rattle.flow_turns.specs.declared.before.Before.{Before}
use Rattle.flow_turns.specs.declared.before.Arrival.{Arrival}
use Rattle.flow_turns.specs.Before.{IsHere, IsAt, IsBefore, seen, arrived}
use Rattle.flow_turns.specs.Steps.{DoesActs, GoesOnBy}
use Rattle.flow_turns.proofs.Past.{shape_grown, fewer}
use Rattle.flow_turns.proofs.Settling.{lands}
use Rattle.flow_turns.proofs.Settled.{state, wrote_is}

module _ (s : Source) (p : Layout) (nodes : List Node) (node : ℕ) (n : Node) (is : slice_get nodes node ≡ Some n) (ns ns1 ns2 : List Gates) (next : ℕ) (here : Arrival) (x : Before) (st : Store) (on : ℕ) (ends : Ends) (f : Fates) (w : Ways) where
  pub acted : Grown ns ns1 → Grown ns1 ns2 → IsHere ns1 here → AreSplits ns1 x.ways.splits.items
      → length ends.bads.items ≡ length x.fates.bads.items → length x.fates.touched.items ≡ length x.fates.bads.items → length f.bads.items ≡ length x.fates.bads.items
      → Always ns2 (λ choice v. TellsStep v st.locations.items on ends x.fates f)
      → Comes next here.ways.items x.ways w
      → (h : IsAt s p nodes node ns x here) → DoesActs s p h.kinds.temps nodes node ns1 n next here x st.locations.items on ends
      → IsBefore s p nodes (node + 1) ns2 (record x { store = st; fates = f; ways = w })
  acted g1 g2 gate splits each_end each_touched each_bad tells comes h d =
      let cut = nodes_are_at nodes node n is in
      let y : Before = record x { store = st; fates = f; ways = w } in
      record {
        kinds = h.kinds;
        fit = h.fit;
        shape = shape_grown s p h.kinds ns ns2 y grown (record {
          locations = each_bad ∙ h.shape.locations;
          kinds = d.same ∙ h.shape.kinds;
          temps = h.shape.temps;
          result = h.shape.result;
          blank = h.shape.blank;
        });
        tells = λ bits few v runs.
            (let runs1 = g2.runs (bit_at bits) v runs in
            let runs0 = g1.runs (bit_at bits) v runs1 in
            let c : Choice = record { source = s; layout = p; bits = bits } in
            let b = h.tells bits few v runs0 in
            let one = d.does bits few v runs1 in
            let old = arrived v p h.kinds node here x in
            let new = seen v p h.kinds y in
            let some = one.some b.other b.some in
            let count = length p.locations in
            let told_is = tells.holds (bit_at bits) v runs in
            let touched_count : length x.fates.touched.items ≡ length p.locations = each_touched ∙ h.shape.locations in
            let each : length ends.bads.items ≡ count = each_end ∙ h.shape.locations in
            record {
              stage = step c nodes count node n next one.m (λ a k. k) (v here.gate.at) (v on) (v ends.live.at) (told v ends.bads.items)
                  (held v x.ways.waits.items) old new (Any {A = Unit {0}}) cut
                  (record { held = λ q. refl; gone = h.gone v })
                  (λ q. comes.held v (splits.all (bit_at bits) v runs1) q ∙ ap (λ b. held v x.ways.waits.items q || (nat_eq next q && b)) (sym (gate.gate.value (bit_at bits) v runs1)))
                  (record {
                    node = one.acts;
                    later = d.later node (length nodes) (nodes_go_on_at nodes node n is h.fit.on);
                    narrow = one.narrow;
                    wide = one.wide;
                    does = λ k kept. lands v ns1 (bit_at bits) on one.begun ends x.store.locations.items st.locations.items (one.m k) (Any {A = Unit {0}}) runs1 one.began (one.does k kept) count old new each (λ ps m. m) (λ ps m. m);
                    other = b.other;
                    does_other = lands v ns1 (bit_at bits) on one.begun ends x.store.locations.items st.locations.items (one.m b.other) (Any {A = Unit {0}}) runs1 one.began some count old new each (λ ps m. m) (λ ps m. m);
                    tells = record {
                      over = told_is.over;
                      bad = λ l l_low. told_is.bads l (subst (λ (i : ℕ). l < i) (sym h.shape.locations) l_low);
                      touched = λ ps is_stored l l_low. told_is.touched ps is_stored l (subst (λ (i : ℕ). l < i) (sym touched_count) l_low);
                      untouched = λ none l l_low. told_is.untouched none l (subst (λ (i : ℕ). l < i) (sym touched_count) l_low);
                    };
                    kept = λ k a kept here_on live good.
                        fewer v p h.kinds.temps x.temps k (unread nodes node node) (unread nodes (node + 1) next)
                        (λ j e. asked_before nodes node n j cut (ap (among j) d.keeps) (d.on_to (λ q. unread nodes (node + 1) q j) ∙ e)) kept;
                    temps = λ off has k free kept. kept;
                    gives = λ r m. m;
                  })
                  b.stage;
              other = b.other;
              some = b.some;
              given = b.given;
              gives = b.gives;
            });
      }
    where
      grown : Grown ns ns2
      grown = record {
        longer = (let a = g1.longer in let b = g2.longer in omega arith);
        inputs = g2.inputs ∙ g1.inputs;
        runs = λ choice v r. g1.runs choice v (g2.runs choice v r);
      }

-- the same, told of the state behind the step
pub acted_from : (ns1 ns2 : List Gates) (next : ℕ) (here : Arrival) (y : Before) (on : ℕ) (ends : Ends) (f : Fates) (w : Ways)
    → Grown ns1 ns2 → IsHere ns1 here → AreSplits ns1 y.ways.splits.items
    → length ends.bads.items ≡ length y.fates.bads.items → length y.fates.touched.items ≡ length y.fates.bads.items → length f.bads.items ≡ length y.fates.bads.items
    → Always ns2 (λ choice v. TellsStep v y.store.locations.items on ends y.fates f) → Comes next here.ways.items y.ways w
    → GoesOnBy ns1 ns2 next here on ends y (record y { fates = f; ways = w })
acted_from ns1 ns2 next here y on ends f w g2 gate splits each_end each_touched each_bad tells comes = record {
  past = λ s p nodes node n is ns g1 old wrote h d.
      (let from : (o : Before) → state old.store y.temps y.ways y.fates y.result y.blank ≡ o → (h : IsAt s p nodes node ns o here)
      → DoesActs s p h.kinds.temps nodes node ns1 n next here o y.store.locations.items on ends
      → IsBefore s p nodes (node + 1) ns2 (record y { fates = f; ways = w }) =
      λ o e. subst
      (λ (o : Before). (h : IsAt s p nodes node ns o here) → DoesActs s p h.kinds.temps nodes node ns1 n next here o y.store.locations.items on ends
      → IsBefore s p nodes (node + 1) ns2 (record y { fates = f; ways = w })) e
      (acted s p nodes node n is ns ns1 ns2 next here (state old.store y.temps y.ways y.fates y.result y.blank) y.store on ends f w
      g1 g2 gate splits each_end each_touched each_bad tells comes) in
      from old (wrote_is old y wrote) h d);
}
