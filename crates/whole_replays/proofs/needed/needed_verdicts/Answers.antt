use Rattle.std.proofs.Common.{◌∙◌, List, refl, ap, map}
use Rattle.std.specs.Arc.{arc_value}
use Rattle.std.specs.declared.alloc.Global.{Global}
use Rattle.std.specs.declared.sync.Arc.{Arc}
use Rattle.std.proofs.lemmas.Result.{IfOk-weaker}
use Rattle.sum_rows.specs.declared.report.Verdict.{Verdict}
use Rattle.whole_replays.specs.Spared.{verdict_at}
use Rattle.whole_replays.proofs.Spares.{is_plan, kept_verdicts}
use Rattle.whole_replays.proofs.needed.needed_verdicts.Goals as goal

pub run_alone-requires-after_bounds : goal.run_alone-requires-after_bounds
run_alone-requires-after_bounds c κs =
    (is_plan c.no_cycle.ensures c.args.analysis.program.now c.args.analysis.plan.now c.args.analysis.planned c.requires.few, refl)

pub returns : goal.returns
returns c =
    let here = c.args.analysis in
    let all : List Verdict = map arc_value c.in_ok-outputs.outputs.list.items in
    IfOk-weaker c.verdicts_of.result _ _
    (λ vs are.
    kept_verdicts here.program.now here.plan.now here.depth here.reach c.in_ok-spared.spared.items c.args.function all vs.items c.no_cycle.ensures
    here.planned c.requires.few c.requires.inside c.in_ok-outputs.ensures c.in_ok-spared.ensures.needed
    (are
    ∙ (ap (λ (l : List (Arc Verdict Global)). map (verdict_at (map arc_value l)) c.callees.result.now) c.as_slice.ensures.value
    ∙ ap (map (verdict_at all)) c.callees.ensures)))
    c.verdicts_of.ensures
