-- A node that makes a call with kept arguments.
use Rattle.std.proofs.Common.{◌≡◌, ℕ, ◌+◌, ◌≤◌, nat_eq, Bool, true, false, ◌||◌, Some, List, [], ◌∷◌, map, length, slice_get, refl, sym, ◌∙◌, ap, subst}
use Rattle.std.proofs.lemmas.Bool.{eq-eqb}
use Rattle.bit_net.specs.declared.nodes.Gate.{Gate}
use Rattle.bit_net.specs.declared.nodes.Node.{Node as Gates}
use Rattle.bit_net.specs.Runs.{Runs, Grown}
use Rattle.gl_store.specs.declared.stores.Location.{Location}
use Rattle.gl_store.specs.Meets.{Meets}
use Rattle.gate_runs.specs.Stands.{Does}
use Rattle.run_store.specs.Concrete.{Cell}
use Rattle.sc_world.specs.Source.{Source}
use Rattle.sc_world.specs.Layout.{Layout}
use Rattle.sc_world.specs.World.{bit_at}
use Rattle.sc_world.specs.Eval.{Value}
use Rattle.flow_graph.specs.Nodes.{Node, Kept, Calling, CallOf, call_of, temp}
use Rattle.flow_graph.specs.Conditions.{InTemp, among, read_by}
use Rattle.flow_types.specs.Kinds as flow
use Rattle.flow_types.specs.Nodes.{NodeFits}
use Rattle.flow_stages.specs.Stage.{unread}
use Rattle.flow_stages.proofs.OfNodes.{nodes_are_at, reads_are_asked}
use Rattle.flow_turns.specs.declared.before.Before.{Before}
use Rattle.flow_turns.specs.declared.before.Arrival.{Arrival}
use Rattle.flow_turns.specs.declared.steps.Made.{Made}
use Rattle.flow_turns.specs.declared.temps.Temps.{Temps}
use Rattle.flow_turns.specs.Kept.{HaveKept, HaveSome, val_at}
use Rattle.flow_turns.specs.Before.{IsFit}
use Rattle.flow_turns.specs.Steps.{IsGood, DoesStep, Settles}
use Rattle.flow_turns.proofs.Turning.{fits_at}
use Rattle.flow_keeps.specs.Calls.{MeetEach, Calls, KeepsCall}
use Rattle.flow_keeps.proofs.Valued.{does_also, kind_of_kept}

meet_each : (v : ℕ → Bool) (t : Temps) (k : Kept) (ms : List ℕ) → ((m : ℕ) → among (InTemp m) (map InTemp ms) ≡ true → Meets v (val_at t m) (temp k m)) → MeetEach v t ms (map (temp k) ms)
meet_each v t k [] h = tt
meet_each v t k (x ∷ ms) h = (
  h x (ap (λ b. b || among (InTemp x) (map InTemp ms)) (eq-eqb x x refl)),
  meet_each v t k ms (λ m is. h m (either (nat_eq m x) (among (InTemp m) (map InTemp ms)) is)),
)
  where
    either : (a b : Bool) → b ≡ true → (a || b) ≡ true
    either true b e = refl
    either false b e = e

good_value : (p : Layout) (kinds : flow.Kinds) (c : Calling) (m : ℕ) (v : ℕ → Bool) (made : Made) (x : Cell) → slice_get kinds.temps m ≡ Some (flow.ValueOf c.result) → v made.sure.at ≡ true
    → Meets v made.val x → IsGood v p kinds.temps m made x
good_value p kinds c m v made x is sure good = record {
  meets = good;
  sure = λ live. sure;
  place = λ u at some. absurd (let e : Some (flow.ValueOf c.result) ≡ Some (flow.PlaceOf u) = sym is ∙ at in cc);
}

call_step : (s : Source) (p : Layout) (kinds : flow.Kinds) (nodes : List Node) (node : ℕ) (ns : List Gates) (c : Calling) (args : List ℕ) (m next : ℕ) (here : Arrival) (old : Before) (stored : List Location) (made : Made)
    → slice_get nodes node ≡ Some (CallOf c args m next) → IsFit s p kinds nodes → slice_get kinds.temps m ≡ Some (flow.ValueOf c.result)
    → made.on ≡ here.gate → Calls s p old.temps ns c args old.store.locations.items stored made
    → DoesStep s p kinds.temps nodes node ns (CallOf c args m next) m next here old stored made
call_step s p kinds nodes node ns c args m next here old stored made is fit kept_for on calls = record {
  same = calls.same;
  keeps = refl;
  on = λ is_so. refl;
  kind = kind_of_kept s kinds Value c.result m made.val kept_for calls.kind;
  later = λ at count h. h;
  does = λ bits few v runs.
      (let n = CallOf c args m next in
      let cut = nodes_are_at nodes node n is in
      let on_is : v made.on.at ≡ v here.gate.at = ap (λ (g : Gate). v g.at) on in
      let good = λ (x : Cell). good_value p kinds c m v made x kept_for (calls.usable (bit_at bits) v runs) in
      record {
        m = λ k. call_of s p bits c (map (temp k) args);
        acts = λ go k w. refl;
        begun = calls.begun;
        began = calls.began;
        narrow = λ off. on_is ∙ off;
        wide = λ k kept here_on. on_is ∙ here_on;
        does = λ k kept.
            does_also v old.store.locations.items stored calls.begun made.ends (call_of s p bits c (map (temp k) args)) (Meets v made.val) (IsGood v p kinds.temps m made) good
            (calls.does bits few v runs (map (temp k) args)
            (meet_each v old.temps k args (λ j named. (kept.temps j (reads_are_asked nodes node n (InTemp j) cut named) (fit.void node j n is refl named)).meets)));
        some = λ k some.
            does_also v old.store.locations.items stored calls.begun made.ends (call_of s p bits c (map (temp k) args)) (Meets v made.val) (IsGood v p kinds.temps m made) good
            (calls.does bits few v runs (map (temp k) args) (meet_each v old.temps k args (λ j named. some.meets j)));
      });
}

pub kept_call : (ns ns' : List Gates) (m next : ℕ) (here : Arrival) (made : Made) (mid new : Before) → Settles ns ns' m next here made mid new → KeepsCall ns ns' m next here made mid new
kept_call ns ns' m next here made mid new h = record {
  past = λ s p nodes node c args is old_ns g old wrote at on calls.
      (let fits : NodeFits s p at.kinds (CallOf c args m next) = fits_at s p at.kinds nodes node (CallOf c args m next) is at.fit.types in
      h.past s p nodes node (CallOf c args m next) is old_ns g old wrote at
      (call_step s p at.kinds nodes node ns c args m next here old mid.store.locations.items made is at.fit fits.4 on calls));
}
