-- One more function is listed where it is stale, and left out where it is not.
use Rattle.std.proofs.Common.{◌≡◌, ℕ, ◌+◌, List, [], ◌∷◌, ◌++◌, map, sym, subst, ◌∙◌}
use Rattle.std.proofs.lemmas.Bool.{true≢false}
use Rattle.std.specs.Prelude.{option_map}
use Rattle.std.specs.Arc.{arc_value}
use Rattle.session_core.specs.declared.kept.Matter.{Matter}
use Rattle.session_core.specs.Stale.{AreStale, none, listed, left_out, memory}
use Rattle.session_core.proofs.staleness.stale.Goals.{then-stale+in_ok-push, else-stale}
use Rattle.session_core.proofs.staleness.stale.Goals as goal

pub loop-f-init : goal.loop-f-init
loop-f-init c =
    let P : List ℕ → Type 0 = λ fs. AreStale c.args.plan.now.callees (map (λ (m : Matter). m.words) c.args.now.now.items)
    (map (option_map memory) c.args.kept.now.items) (map arc_value c.args.verdicts.now.list.items) 0 fs in
    subst P (sym c.new-found.ensures.items) none

pub loop-f-preserved : goal.loop-f-preserved
loop-f-preserved c =
    let f = c.loop-f.f in
    let fs = c.loop-f.found.items in
    let P : List ℕ → Type 0 = λ gs. AreStale c.args.plan.now.callees (map (λ (m : Matter). m.words) c.args.now.now.items)
    (map (option_map memory) c.args.kept.now.items) (map arc_value c.args.verdicts.now.list.items) (f + 1) gs in
    elim c.if-stale.branch [
      | then-stale+in_ok-push w ↦
          let all : c.if-stale.found.items ≡ fs ++ f ∷ [] = (λ i. (w.found-is i).items) ∙ w.in_ok-push.ensures.items in
          subst P (sym all) (listed f fs c.loop-f.invariant (c.in_ok-stale.ensures.0 w.if-stale.true))
      | else-stale w ↦
          let same : c.if-stale.found.items ≡ fs = λ i. (w.found-is i).items in
          subst P (sym same) (left_out f fs c.loop-f.invariant (λ is. absurd (true≢false (sym (c.in_ok-stale.ensures.1 is) ∙ w.if-stale.false))))
    ]
