-- The callees of a function that may be claimed are published, so their outputs were made.
use Rattle.std.proofs.Common.{◌<◌, length, map, slice_set, refl, sym, subst, ap, ◌∙◌, Some, arith}
use Rattle.std.specs.List.{All}
use Rattle.std.specs.Option.{IsSome}
use Rattle.plan_core.specs.Graph.{callees}
use Rattle.plan_core.specs.Core.{after, Publish}
use Rattle.work_pool.specs.Outputs.{made_at, IsMade, ArePublishedMade}
use Rattle.work_pool.proofs.Made.{callees_made, callees_shared, made_more, turned}
use Rattle.work_pool.proofs.alone.turn.Goals as goal

pub shared_all-requires : goal.shared_all-requires
shared_all-requires g c k d low =
    let rows = c.args.plan.now.callees in
    let made = c.args.made.now.items in
    let ok = c.args.made.now.ok.0 in
    let many = c.requires.state.1 in
    subst (λ gs. All (λ h. (h < length c.as_slice.result.now) × IsSome (made_at c.as_slice.result.now h)) gs) (sym c.callees_of.ensures)
    (subst (λ m. All (λ h. (h < length m) × IsSome (made_at m h)) (callees rows c.args.function)) (sym c.as_slice.ensures.value)
    (callees_shared (g.W.Work.defined c.args.work.now) rows c.args.state.now made c.args.function c.requires.plan.0 c.requires.state.0 (omega arith) c.requires.made c.requires.function.1))
    k d low

pub row-requires-clause-given : goal.row-requires-clause-given
row-requires-clause-given g c =
    let rows = c.args.plan.now.callees in
    let f = c.args.function in
    let defined = g.W.Work.defined c.args.work.now in
    let made = c.args.made.now.items in
    c.in_ok-given.ensures defined
    (subst (λ gs. All (IsMade defined c.as_slice.result.now) gs) (sym c.callees_of.ensures)
    (subst (λ m. All (IsMade defined m) (callees rows f)) (sym c.as_slice.ensures.value)
    (callees_made defined rows c.args.state.now made f c.requires.plan.0 c.requires.state.0 c.requires.made c.requires.function.1)))
    ∙ ap (map defined) (c.callees_of.ensures ∙ ap (λ rs. callees rs f) (sym c.requires.plan.1))

pub returns-clause-state : goal.returns-clause-state
returns-clause-state g c =
    let rows = c.args.plan.now.callees in
    c.publish.ensures.after rows
    ∙ (ap (λ ms. after rows ms (Publish 0 c.args.function)) c.claim.ensures.after
    ∙ turned rows c.args.state.now 0 c.args.function c.requires.function.0 c.requires.function.1)

pub returns-clause-made : goal.returns-clause-made
returns-clause-made g c =
    let rows = c.args.plan.now.callees in
    let defined = g.W.Work.defined c.args.work.now in
    let made = c.args.made.now.items in
    let ok = c.args.made.now.ok.0 in
    let many = c.requires.state.1 in
    let inside = c.requires.function.0 in
    let state =
    c.publish.ensures.after rows
    ∙ (ap (λ ms. after rows ms (Publish 0 c.args.function)) c.claim.ensures.after
    ∙ turned rows c.args.state.now 0 c.args.function c.requires.function.0 c.requires.function.1) in (
      refl,
      subst (λ ms. ArePublishedMade defined ms (slice_set made c.args.function (Some c.in_ok-output.output))) (sym state)
          (made_more defined c.args.state.now made c.args.function c.in_ok-output.output (omega arith)
          (c.in_ok-output.ensures.ok ∙ c.in_ok-row.ensures) c.requires.made),
    )
