-- A node that sets a kept place to what an operator makes of two kept values.
use Rattle.std.proofs.Common.{◌≡◌, ℕ, ◌+◌, ◌≤◌, nat_eq, Bool, true, false, ◌&&◌, ◌||◌, Some, List, [], ◌∷◌, map, length, slice_get, refl, sym, ◌∙◌, ap, subst}
use Rattle.std.proofs.lemmas.Bool.{eq-eqb}
use Rattle.bit_net.specs.declared.nodes.Node.{Node as Gates}
use Rattle.bit_net.specs.Runs.{Runs, Grown}
use Rattle.gl_store.specs.declared.stores.Location.{Location}
use Rattle.gate_runs.specs.Stands.{Does, told}
use Rattle.run_store.specs.Concrete.{Cell}
use Rattle.sc_world.specs.Source.{Source}
use Rattle.sc_world.specs.Layout.{Layout}
use Rattle.sc_world.specs.World.{bit_at}
use Rattle.sc_world.specs.Eval.{Want}
use Rattle.flow_graph.specs.Nodes.{Node, Kept, Updating, Update, updated, temp}
use Rattle.flow_graph.specs.Conditions.{InTemp, among, read_by}
use Rattle.flow_types.specs.Kinds as flow
use Rattle.flow_types.specs.Nodes.{NodeFits}
use Rattle.flow_stages.specs.Stage.{unread}
use Rattle.flow_stages.proofs.OfNodes.{nodes_are_at, reads_are_asked}
use Rattle.flow_turns.specs.declared.before.Before.{Before}
use Rattle.flow_turns.specs.declared.before.Arrival.{Arrival}
use Rattle.flow_turns.specs.declared.steps.Made.{Made}
use Rattle.flow_turns.specs.Kept.{HasKept, HaveKept}
use Rattle.flow_turns.specs.Before.{IsFit}
use Rattle.flow_turns.specs.Steps.{IsGood, DoesStep, Settles}
use Rattle.flow_turns.proofs.Turning.{fits_at}
use Rattle.flow_keeps.specs.Evaluates.{IsWanted, kind_of}
use Rattle.flow_keeps.specs.Keeps.{BeginsAt}
use Rattle.flow_keeps.specs.Reads.{each_sure}
use Rattle.flow_keeps.specs.Updates.{Updates, KeepsUpdate}
use Rattle.flow_keeps.proofs.Valued.{does_also, kind_of_kept, good_place}

second : (a b : Bool) → (a && b) ≡ true → b ≡ true
second true b e = e
second false b e = absurd (cc)

first : (a b : Bool) → (a && b) ≡ true → a ≡ true
first true b e = refl
first false b e = absurd (cc)

or_here : (a b : Bool) → a ≡ true → (a || b) ≡ true
or_here true b e = refl
or_here false b e = absurd (cc)

or_there : (a b : Bool) → b ≡ true → (a || b) ≡ true
or_there true b e = refl
or_there false b e = e

update_step : (s : Source) (p : Layout) (kinds : flow.Kinds) (nodes : List Node) (node : ℕ) (ns : List Gates) (u : Updating) (want : Want) (at former right m next : ℕ) (here : Arrival) (old : Before) (stored : List Location) (made : Made)
    → slice_get nodes node ≡ Some (Update u want at former right m next) → IsFit s p kinds nodes → NodeFits s p kinds (Update u want at former right m next)
    → BeginsAt ns here old (at ∷ []) made.on.at → Updates s p old.temps ns u want at former right old.store.locations.items stored made
    → DoesStep s p kinds.temps nodes node ns (Update u want at former right m next) m next here old stored made
update_step s p kinds nodes node ns u want at former right m next here old stored made is fit fits on h = record {
  same = h.same;
  keeps = refl;
  on = λ is_so. refl;
  kind = kind_of_kept s kinds want u.ctype m made.val fits.5 h.kind;
  later = λ at count h. h;
  does = λ bits few v runs.
      (let n = Update u want at former right m next in
      let cut = nodes_are_at nodes node n is in
      let good = λ (c : Cell). good_place p kinds want u.ctype m v made c fits.5 (h.usable (bit_at bits) v runs) in
      let begins = on.value (bit_at bits) v runs in
      let reads_at : among (InTemp at) (read_by n) ≡ true = or_here (nat_eq at at) _ (eq-eqb at at refl) in
      let reads_former : among (InTemp former) (read_by n) ≡ true = or_there (nat_eq former at) _ (or_here (nat_eq former former) _ (eq-eqb former former refl)) in
      let reads_right : among (InTemp right) (read_by n) ≡ true = or_there (nat_eq right at) _ (or_there (nat_eq right former) _ (or_here (nat_eq right right) _ (eq-eqb right right refl))) in
      let has = λ (k : Kept) (kept : HaveKept v p kinds.temps old.temps k (unread nodes node node)) (j : ℕ) (read : among (InTemp j) (read_by n) ≡ true).
      kept.temps j (reads_are_asked nodes node n (InTemp j) cut read) (fit.void node j n is refl read) in
      record {
        m = λ k. updated s p bits u want (temp k at) (temp k former) (temp k right);
        acts = λ go k w. refl;
        begun = h.begun;
        began = h.began;
        narrow = λ off. begins ∙ ap (λ b. b && each_sure v old.temps (at ∷ [])) off;
        wide = λ k kept here_on. begins ∙ (ap (λ b. b && each_sure v old.temps (at ∷ [])) here_on ∙ ap (λ b. b && true) (has k kept at reads_at).sure);
        does = λ k kept.
            does_also v old.store.locations.items stored h.begun made.ends (updated s p bits u want (temp k at) (temp k former) (temp k right))
            (IsWanted v made.ends.live.at p (kind_of want u.ctype) made.val) (IsGood v p kinds.temps m made) good
            (h.does bits few v runs (temp k at) (temp k former) (temp k right) ((has k kept at reads_at).meets, λ live. (has k kept at reads_at).place u.ctype fits.0)
            (has k kept former reads_former).meets (has k kept right reads_right).meets);
        some = λ k some.
            does_also v old.store.locations.items stored h.begun made.ends (updated s p bits u want (temp k at) (temp k former) (temp k right))
            (IsWanted v made.ends.live.at p (kind_of want u.ctype) made.val) (IsGood v p kinds.temps m made) good
            (h.does bits few v runs (temp k at) (temp k former) (temp k right) (
              some.meets at,
              λ live. some.place at u.ctype fits.0
                  (first (told v old.temps.sure.items at) true (second (v here.gate.at) (each_sure v old.temps (at ∷ [])) (sym begins ∙ (sym (ap v h.began.live) ∙ live)))),
            )
            (some.meets former) (some.meets right));
      });
}

pub kept_update : (ns ns' : List Gates) (m next : ℕ) (here : Arrival) (made : Made) (mid new : Before) → Settles ns ns' m next here made mid new → KeepsUpdate ns ns' m next here made mid new
kept_update ns ns' m next here made mid new h = record {
  past = λ s p nodes node u want at former right is old_ns g old wrote before on updates.
      h.past s p nodes node (Update u want at former right m next) is old_ns g old wrote before
      (update_step s p before.kinds nodes node ns u want at former right m next here old mid.store.locations.items made is before.fit
      (fits_at s p before.kinds nodes node (Update u want at former right m next) is before.fit.types) on updates);
}
