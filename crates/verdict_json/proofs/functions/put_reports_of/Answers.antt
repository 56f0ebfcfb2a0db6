use Rattle.std.proofs.Common.{◌∙◌, ◌++◌, ap, map, sym}
use Rattle.std.specs.Arc.{arc_value}
use Rattle.json.specs.Tree.{json_tokens}
use Rattle.verdict_json.specs.Tellings.{says_among, says_told}
use Rattle.std.specs.Prelude.{None}
use Rattle.verdict_json.proofs.Among.{told_among}
use Rattle.verdict_json.proofs.NoReports.{none_told}
use Rattle.verdict_json.proofs.functions.put_reports_of.Goals as goal

pub returns-then-is_empty : goal.returns-then-is_empty
returns-then-is_empty c =
    let check = c.args.all.now.check.now in
    c.in_ok-put_reports.ensures
    ∙ ap (λ v. c.args.text.now ++ json_tokens v)
    (none_told check.program.now check.marks.now (says_told check None) (says_among c.args.all.now c.args.number c.args.function.now) c.args.function.now
    c.args.reports.now (sym c.is_empty.ensures ∙ c.if-is_empty.true))

pub returns : goal.returns
unfolding says_among
returns c =
    let check = c.args.all.now.check.now in
    c.in_ok-put_among.ensures
    ∙ ap (λ v. c.args.text.now ++ json_tokens v)
    (told_among check.program.now check.marks.now check.depth check.reach c.args.number c.args.function.now c.args.reports.now
    c.args.all.now.plan.now.callees (map arc_value c.args.all.now.verdicts.now) c.callees-kept.result.now c.as_slice.result.now c.callees-kept.ensures
    (c.as_slice.ensures.value ∙ c.in_ok-verdicts.ensures))
