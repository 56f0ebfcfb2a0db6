-- A node that makes a step, from before it to behind it.
use Rattle.std.proofs.Common.{◌≡◌, ℕ, ◌+◌, ◌<◌, nat_eq, false, ◌&&◌, ◌||◌, Some, List, [], ◌∷◌, length, slice_get, refl, sym, ◌∙◌, ap, subst, arith}
use Rattle.std.proofs.lemmas.Bool.{ne_eqb, eqb-false}
use Rattle.bit_net.specs.declared.nodes.Node.{Node as Gates}
use Rattle.bit_net.specs.Runs.{Grown, Always}
use Rattle.gl_store.specs.declared.stores.Store.{Store}
use Rattle.gl_store.specs.declared.values.Val.{Val}
use Rattle.gate_runs.specs.Stands.{told}
use Rattle.sc_world.specs.Source.{Source}
use Rattle.sc_world.specs.Layout.{Layout}
use Rattle.sc_world.specs.World.{bit_at}
use Rattle.flow_graph.specs.Nodes.{Node, temp, keep}
use Rattle.flow_graph.specs.Conditions.{InTemp, InSlot, among}
use Rattle.flow_ways.specs.declared.ways.Ways.{Ways}
use Rattle.flow_ways.specs.Held.{held, AreSplits}
use Rattle.flow_ways.specs.Steps.{Comes}
use Rattle.flow_ends.specs.declared.fates.Fates.{Fates}
use Rattle.flow_ends.specs.Fates.{TellsStep}
use Rattle.flow_stages.specs.Stage.{Choice, unread}
use Rattle.flow_stages.proofs.ByKind.{step}
use Rattle.flow_stages.proofs.OfNodes.{nodes_are_at, nodes_go_on_at, asked_before}
use Rattle.flow_turns.specs.declared.before.Before.{Before}
use Rattle.flow_turns.specs.declared.before.Arrival.{Arrival}
use Rattle.flow_turns.specs.declared.steps.Made.{Made}
use Rattle.flow_turns.specs.declared.temps.Temps.{Temps}
use Rattle.flow_turns.specs.Kept.{is_kept}
use Rattle.flow_turns.specs.Before.{IsHere, IsAt, IsBefore, seen, arrived}
use Rattle.flow_turns.specs.Turns.{Keeps}
use Rattle.flow_turns.specs.Steps.{IsGood, DoesStep, WroteStore, Settles}
use Rattle.flow_turns.proofs.Past.{shape_grown}
use Rattle.flow_turns.proofs.Settling.{has_store, is_given, lands, kept_on, kept_off, some_after, kinds_after, cell_after}

-- one among a list of one
among_other : (temp j : ℕ) → nat_eq temp j ≡ false → among (InTemp j) (InTemp temp ∷ []) ≡ false
among_other temp j e = ap (λ b. b || false) (turned e)
  where
    turned : nat_eq temp j ≡ false → nat_eq j temp ≡ false
    turned e = ne_eqb j temp (λ same. eqb-false temp j e (sym same))

module _ (s : Source) (p : Layout) (nodes : List Node) (node : ℕ) (n : Node) (is : slice_get nodes node ≡ Some n) (ns ns1 ns2 : List Gates) (m next : ℕ) (here : Arrival) (x : Before) (st : Store) (made : Made) (f : Fates) (t : Temps) (w : Ways) where
  pub settled : Grown ns ns1 → Grown ns1 ns2 → IsHere ns1 here → AreSplits ns1 x.ways.splits.items → m < length x.temps.vals.items
      → length made.ends.bads.items ≡ length x.fates.bads.items → length x.fates.touched.items ≡ length x.fates.bads.items → length f.bads.items ≡ length x.fates.bads.items
      → Always ns2 (λ choice v. TellsStep v st.locations.items made.on.at made.ends x.fates f)
      → Keeps ns2 here.gate.at m made.val made.sure.at x.temps t → Comes next here.ways.items x.ways w
      → (h : IsAt s p nodes node ns x here) → DoesStep s p h.kinds.temps nodes node ns1 n m next here x st.locations.items made
      → IsBefore s p nodes (node + 1) ns2 (record x { store = st; temps = t; fates = f; ways = w })
  settled g1 g2 gate splits low each_end each_touched each_bad tells keeps comes h d =
      let cut = nodes_are_at nodes node n is in
      let y : Before = record x { store = st; temps = t; fates = f; ways = w } in
      let low' : m < length h.kinds.temps = (let e = h.shape.temps.count in omega arith) in
      record {
        kinds = h.kinds;
        fit = h.fit;
        shape = shape_grown s p h.kinds ns ns2 y grown (record {
          locations = each_bad ∙ h.shape.locations;
          kinds = d.same ∙ h.shape.kinds;
          temps = record {
            count = keeps.count ∙ h.shape.temps.count;
            slots = ap (λ xs. length xs.items) keeps.slots ∙ h.shape.temps.slots;
            each = kinds_after s h.kinds ns2 here.gate.at m made x.temps t keeps h.shape.temps.each d.kind;
          };
          result = h.shape.result;
          blank = h.shape.blank;
        });
        tells = λ bits few v runs.
            (let runs1 = g2.runs (bit_at bits) v runs in
            let runs0 = g1.runs (bit_at bits) v runs1 in
            let c : Choice = record { source = s; layout = p; bits = bits } in
            let b = h.tells bits few v runs0 in
            let one = d.does bits few v runs1 in
            let old = arrived v p h.kinds node here x in
            let new = seen v p h.kinds y in
            let some = one.some b.other b.some in
            let stored = has_store c nodes (length p.locations) node old b.stage in
            let y0 = is_given v ns1 (bit_at bits) made.on.at one.begun made.ends x.store.locations.items st.locations.items (one.m b.other) (IsGood v p h.kinds.temps m made) runs1 one.began some stored.0 stored.1 in
            let count = length p.locations in
            let told_is = tells.holds (bit_at bits) v runs in
            let touched_count : length x.fates.touched.items ≡ length p.locations = each_touched ∙ h.shape.locations in
            let each : length made.ends.bads.items ≡ count = each_end ∙ h.shape.locations in
            record {
              stage = step c nodes count node n next one.m (λ a k. keep m a k) (v here.gate.at) (v made.on.at) (v made.ends.live.at) (told v made.ends.bads.items)
                  (held v x.ways.waits.items) old new (IsGood v p h.kinds.temps m made) cut
                  (record { held = λ q. refl; gone = h.gone v })
                  (λ q. comes.held v (splits.all (bit_at bits) v runs1) q ∙ ap (λ b. held v x.ways.waits.items q || (nat_eq next q && b)) (sym (gate.gate.value (bit_at bits) v runs1)))
                  (record {
                    node = one.acts;
                    later = d.later node (length nodes) (nodes_go_on_at nodes node n is h.fit.on);
                    narrow = one.narrow;
                    wide = one.wide;
                    does = λ k kept. lands v ns1 (bit_at bits) made.on.at one.begun made.ends x.store.locations.items st.locations.items (one.m k) (IsGood v p h.kinds.temps m made) runs1 one.began (one.does k kept) count old new each (λ ps m. m) (λ ps m. m);
                    other = b.other;
                    does_other = lands v ns1 (bit_at bits) made.on.at one.begun made.ends x.store.locations.items st.locations.items (one.m b.other) (IsGood v p h.kinds.temps m made) runs1 one.began some count old new each (λ ps m. m) (λ ps m. m);
                    tells = record {
                      over = told_is.over;
                      bad = λ l l_low. told_is.bads l (subst (λ (i : ℕ). l < i) (sym h.shape.locations) l_low);
                      touched = λ ps is_stored l l_low. told_is.touched ps is_stored l (subst (λ (i : ℕ). l < i) (sym touched_count) l_low);
                      untouched = λ none l l_low. told_is.untouched none l (subst (λ (i : ℕ). l < i) (sym touched_count) l_low);
                    };
                    kept = λ k a kept on live good.
                        kept_on s p h.kinds ns2 (bit_at bits) v runs here.gate.at m made x.temps t keeps low' h.shape.temps.each d.kind
                        k b.other a (unread nodes node node) (unread nodes (node + 1) next) kept b.some good on live
                        (λ j e free. asked_before nodes node n (InTemp j) cut (ap (among (InTemp j)) d.keeps ∙ among_other m j e) (d.on (λ q. unread nodes (node + 1) q (InTemp j)) ∙ free))
                        (λ j free. asked_before nodes node n (InSlot j) cut (ap (among (InSlot j)) d.keeps) (d.on (λ q. unread nodes (node + 1) q (InSlot j)) ∙ free));
                    temps = λ off has k free kept. kept_off s p h.kinds ns2 (bit_at bits) v runs here.gate.at m made x.temps t keeps low' h.shape.temps.each d.kind k free y0.0 y0.1.meets off kept;
                    gives = λ r m. m;
                  })
                  b.stage;
              other = keep m (cell_after (is_kept x.temps m) (v here.gate.at) (temp b.other m) y0.0) b.other;
              some = some_after s p h.kinds ns2 (bit_at bits) v runs here.gate.at m made x.temps t keeps low' h.shape.temps.each d.kind b.other y0.0 b.some y0.1;
              given = b.given;
              gives = b.gives;
            });
      }
    where
      grown : Grown ns ns2
      grown = record {
        longer = (let a = g1.longer in let b = g2.longer in omega arith);
        inputs = g2.inputs ∙ g1.inputs;
        runs = λ choice v r. g1.runs choice v (g2.runs choice v r);
      }

abbrev pub state : Store → Temps → Ways → Fates → Val → Val → Before
state st t w f r b = record { store = st; temps = t; ways = w; fates = f; result = r; blank = b }

pub wrote_is : (old y : Before) → WroteStore old y → state old.store y.temps y.ways y.fates y.result y.blank ≡ old
wrote_is old y h =
    ap (λ t. state old.store t y.ways y.fates y.result y.blank) h.temps
    ∙ (ap (λ w. state old.store old.temps w y.fates y.result y.blank) h.ways
    ∙ (ap (λ f. state old.store old.temps old.ways f y.result y.blank) h.fates
    ∙ (ap (λ r. state old.store old.temps old.ways old.fates r y.blank) h.result
    ∙ ap (λ b. state old.store old.temps old.ways old.fates old.result b) h.blank)))

-- the same, told of the state behind the step
pub settled_from : (ns1 ns2 : List Gates) (m next : ℕ) (here : Arrival) (y : Before) (made : Made) (f : Fates) (t : Temps) (w : Ways)
    → Grown ns1 ns2 → IsHere ns1 here → AreSplits ns1 y.ways.splits.items → m < length y.temps.vals.items
    → length made.ends.bads.items ≡ length y.fates.bads.items → length y.fates.touched.items ≡ length y.fates.bads.items → length f.bads.items ≡ length y.fates.bads.items
    → Always ns2 (λ choice v. TellsStep v y.store.locations.items made.on.at made.ends y.fates f)
    → Keeps ns2 here.gate.at m made.val made.sure.at y.temps t → Comes next here.ways.items y.ways w
    → Settles ns1 ns2 m next here made y (record y { temps = t; fates = f; ways = w })
settled_from ns1 ns2 m next here y made f t w g2 gate splits low each_end each_touched each_bad tells keeps comes = record {
  past = λ s p nodes node n is ns g1 old wrote h d.
      (let from : (o : Before) → state old.store y.temps y.ways y.fates y.result y.blank ≡ o → (h : IsAt s p nodes node ns o here)
      → DoesStep s p h.kinds.temps nodes node ns1 n m next here o y.store.locations.items made
      → IsBefore s p nodes (node + 1) ns2 (record y { temps = t; fates = f; ways = w }) =
      λ o e. subst
      (λ (o : Before). (h : IsAt s p nodes node ns o here) → DoesStep s p h.kinds.temps nodes node ns1 n m next here o y.store.locations.items made
      → IsBefore s p nodes (node + 1) ns2 (record y { temps = t; fates = f; ways = w })) e
      (settled s p nodes node n is ns ns1 ns2 m next here (state old.store y.temps y.ways y.fates y.result y.blank) y.store made f t w
      g1 g2 gate splits low each_end each_touched each_bad tells keeps comes) in
      from old (wrote_is old y wrote) h d);
}
