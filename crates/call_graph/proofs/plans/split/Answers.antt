use Rattle.std.proofs.Common.{◌≡◌, ◌++◌, not, filter, map, [], ◌∷◌, sym, subst, ap, ◌∙◌}
use Rattle.std.proofs.lemmas.List.{get_or_read}
use Rattle.plan_core.specs.Graph.{callees, is_cut}
use Rattle.call_graph.specs.Plans.{edge}
use Rattle.call_graph.proofs.Edges.{rows_more, edges_more}
use Rattle.call_graph.proofs.plans.split.Goals as goal

pub loop-caller-preserved : goal.loop-caller-preserved
loop-caller-preserved c =
    let rows = c.args.rows.now in
    let f = c.loop-caller.caller in
    let row : c.as_slice-row.result.now ≡ callees rows f =
    c.as_slice-row.ensures ∙ get_or_read rows f c.index-rows-caller.result c.loop-caller-test.true c.index-rows-caller.is [] in
    let kept : c.in_ok-kept.field-0 ≡ filter (λ g. not (is_cut rows f g)) (callees rows f) =
    subst (λ gs. c.in_ok-kept.field-0 ≡ filter (λ g. not (is_cut rows f g)) gs) row c.in_ok-kept.ensures.kept in
    let cut : c.kept.new.cut ≡ c.loop-caller.cut ++ map (edge f) (filter (is_cut rows f) (callees rows f)) =
    subst (λ gs. c.kept.new.cut ≡ c.loop-caller.cut ++ map (edge f) (filter (is_cut rows f) gs)) row c.in_ok-kept.ensures.cut in (
      c.in_ok-push.ensures.ok
          ∙ rows_more rows f c.loop-caller.callees c.in_ok-kept.field-0 c.requires.graph (c.requires.ascending f) c.loop-caller.invariant.0 kept,
      edges_more rows f c.loop-caller.cut c.kept.new.cut c.requires.graph (c.requires.ascending f) c.loop-caller.invariant.1 cut,
    )
