-- A node that sets a local to the value of an expression.
use Rattle.std.proofs.Common.{◌≡◌, ℕ, suc, ◌+◌, ◌<◌, nat_eq, Bool, true, false, ◌&&◌, if◌then◌else◌, Some, List, [], map, length, slice_get, refl, sym, ◌∙◌, ap, subst, arith, add-one}
use Rattle.bit_net.specs.declared.nodes.Node.{Node as Gates}
use Rattle.bit_net.specs.Runs.{Runs, Grown, Always}
use Rattle.gl_sets.specs.declared.sets.Set.{Set as Sets}
use Rattle.gl_sets.specs.Guards.{Points}
use Rattle.gl_store.specs.declared.stores.Location.{Location}
use Rattle.gate_runs.specs.declared.ends.Ends.{Ends}
use Rattle.gate_runs.specs.Stands.{Does, HasBegun, Any}
use Rattle.gate_runs.proofs.Bind.{bind}
use Rattle.gate_steps.specs.Steps.{LeadsTo, DoesStore}
use Rattle.run_store.specs.Concrete.{Cell}
use Rattle.run_laws.specs.Fits.{is_scalar}
use Rattle.sc_world.specs.declared.run.Origin.TheVariants as origin
use Rattle.sc_world.specs.Tree.{Exp, type_of, One}
use Rattle.sc_world.specs.Source.{Source}
use Rattle.sc_world.specs.Layout.{Layout, location_of}
use Rattle.sc_world.specs.World.{Run, Env, ◌>>=◌, bit_at, store}
use Rattle.sc_world.specs.Eval.{Want, Value, Place', eval, place_of, copy}
use Rattle.sc_world.specs.Exec.{initialise}
use Rattle.flow_graph.specs.Nodes.{Node, Kept, Set, reads}
use Rattle.flow_graph.specs.Conditions.{temps_of}
use Rattle.flow_types.specs.Kinds as flow
use Rattle.flow_types.specs.Nodes.{NodeFits}
use Rattle.flow_turns.specs.declared.before.Before.{Before}
use Rattle.flow_turns.specs.declared.before.Arrival.{Arrival}
use Rattle.flow_turns.specs.declared.steps.Made.{Made}
use Rattle.flow_turns.specs.Before.{IsFit, IsAt}
use Rattle.flow_turns.specs.Steps.{DoesAct, DoesActs, GoesOnBy, WroteStore}
use Rattle.flow_turns.proofs.Past.{grown_both}
use Rattle.flow_turns.proofs.Turning.{fits_at}
use Rattle.flow_keeps.specs.Evaluates.{Evaluates, IsWanted, kind_of}
use Rattle.flow_keeps.specs.Keeps.{BeginsAt}
use Rattle.flow_keeps.specs.Sets.{SetsValue}
use Rattle.flow_keeps.proofs.Valued.{narrow, wide, does_kept, does_some}

-- the value is evaluated, and then stored
set_does : (s : Source) (p : Layout) (bits : List Bool) (v : ℕ → Bool) (at : ℕ) (e : Exp) (k : Kept) (l0 l1 l2 : List Location) (begun ends : Ends) (made : Made)
    → is_scalar (type_of e) ≡ true
    → Does v l0 begun (eval e Value (reads s p bits k)) l1 ends (IsWanted v ends.live.at p (kind_of Value (type_of e)) made.val)
    → ((c : Cell) → IsWanted v ends.live.at p (kind_of Value (type_of e)) made.val c → Does v l1 ends (store at c) l2 ends (Any {A = Unit {0}}))
    → Does v l0 begun (initialise at (One e) (reads s p bits k)) l2 ends (Any {A = Unit {0}})
set_does s p bits v at e k l0 l1 l2 begun ends made scalar first next =
    let env = reads s p bits k in
    subst
    (λ (b : Bool). Does v l0 begun (if b then (eval e Value env >>= λ c. store at c) else (eval e Place' env >>= λ q. copy env (place_of q) at)) l2 ends (Any {A = Unit {0}})) (sym scalar)
    (bind v l0 l1 l2 begun ends ends (eval e Value env) (λ c. store at c) (IsWanted v ends.live.at p (kind_of Value (type_of e)) made.val) (Any {A = Unit {0}}) first next)

pub set_value : (ns ns1 ns' : List Gates) (location next : ℕ) (here : Arrival) (made : Made) (mid done new : Before) (place : Sets)
    → Grown ns ns1 → Always ns (λ choice v. Points v place.pairs.items (location + 1))
    → DoesStore ns1 made.ends place.pairs.items made.val mid.store.locations.items done.store.locations.items
    → WroteStore mid done → GoesOnBy ns1 ns' next here made.on.at made.ends done new
    → SetsValue ns ns' location next here made mid new
set_value ns ns1 ns' location next here made mid done new place g points stored wrote_on h = record {
  past = λ s p nodes node m e is at scalar old_ns g0 old wrote before on ev.
      (let n = Set m e next in
      let fits = (fits_at s p before.kinds nodes node n is before.fit.types) in
      h.past s p nodes node n is old_ns (grown_both old_ns ns ns1 g0 g) old
      (record {
        temps = wrote_on.temps ∙ wrote.temps;
        ways = wrote_on.ways ∙ wrote.ways;
        fates = wrote_on.fates ∙ wrote.fates;
        result = wrote_on.result ∙ wrote.result;
        blank = wrote_on.blank ∙ wrote.blank;
      })
      before
      (record {
        same = stored.same ∙ ev.same;
        keeps = refl;
        on_to = λ is_so. refl;
        later = λ at count h. h;
        does = λ bits few v runs.
            (let runs0 = g.runs (bit_at bits) v runs in
            let leads : LeadsTo v made.ends place.pairs.items location = record { target = location + 1; points = points.holds (bit_at bits) v runs0; there = λ live. add-one location } in
            let next_does = λ (c : Cell) (good : IsWanted v made.ends.live.at p (kind_of Value (type_of e)) made.val c). stored.does (bit_at bits) v runs location c leads good in
            let whole = λ (k : Kept) (d : Does v old.store.locations.items ev.begun (eval e Value (reads s p bits k)) mid.store.locations.items made.ends (IsWanted v made.ends.live.at p (kind_of Value (type_of e)) made.val)).
            subst (λ (i : ℕ). Does v old.store.locations.items ev.begun (initialise i (One e) (reads s p bits k)) done.store.locations.items made.ends (Any {A = Unit {0}})) (sym at)
            (set_does s p bits v location e k old.store.locations.items mid.store.locations.items done.store.locations.items ev.begun made.ends made scalar d next_does) in
            record {
              m = λ k. initialise (location_of p (origin.Local m)) (One e) (reads s p bits k);
              acts = λ go k w. refl;
              begun = ev.begun;
              began = record {
                live = ev.began.live;
                asides = λ choice v r k. ev.began.asides choice v (g.runs choice v r) k;
                bads = λ choice v r k. ev.began.bads choice v (g.runs choice v r) k;
              };
              narrow = narrow s p before.kinds nodes node n ns Value e here old mid.store.locations.items made is refl refl before.fit (value_fits s p before.kinds e m next scalar fits) ev on bits v runs0;
              wide = wide s p before.kinds nodes node n ns Value e here old mid.store.locations.items made is refl refl before.fit (value_fits s p before.kinds e m next scalar fits) ev on bits v runs0;
              does = λ k kept. whole k
                  (does_kept s p before.kinds nodes node n ns Value e here old mid.store.locations.items made is refl refl before.fit (value_fits s p before.kinds e m next scalar fits) ev on bits v runs0 k kept);
              some = λ k some. whole k
                  (does_some s p before.kinds nodes node n ns Value e here old mid.store.locations.items made is refl refl before.fit (value_fits s p before.kinds e m next scalar fits) ev on bits v runs0 k some);
            });
      }));
}
  where
    value_fits : (s : Source) (p : Layout) (kinds : flow.Kinds) (e : Exp) (m next : ℕ) → is_scalar (type_of e) ≡ true → NodeFits s p kinds (Set m e next) → flow.FitsOver kinds p Value e
    value_fits s p kinds e m next scalar h = subst (λ (w : Want). flow.FitsOver kinds p w e) (wanted (is_scalar (type_of e)) scalar) h.1
      where
        wanted : (b : Bool) → b ≡ true → (if b then Value else Place') ≡ Value
        wanted true e = refl
        wanted false e = absurd (cc)
