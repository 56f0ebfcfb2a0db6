use Rattle.std.proofs.Common.{◌≡◌, ◌++◌, List, [], map, ap, ◌∙◌}
use Rattle.std.specs.Arc.{arc_value}
use Rattle.json.specs.Print.{print}
use Rattle.json.specs.Tree.{json_tokens}
use Rattle.verdict_json.specs.Checks.{check_value}
use Rattle.verdict_json.proofs.Depths.{check_depth}
use Rattle.verdict_json.proofs.checks.check_json.Goals as goal

pub returns-clause-bytes : goal.returns-clause-bytes
returns-clause-bytes c =
    let check = c.args.check.now in
    c.into_bytes.ensures.bytes
    ∙ ap print
    (c.in_ok-put_check.ensures
    ∙ ap
    (λ ts. ts
    ++ json_tokens (check_value check.program.now check.marks.now check.depth check.reach c.args.plan.now.callees (map arc_value c.as_slice.result.now)))
    c.new-text.ensures
    ∙ ap (λ vs. json_tokens (check_value check.program.now check.marks.now check.depth check.reach c.args.plan.now.callees (map arc_value vs)))
    c.as_slice.ensures.value)

pub returns-clause-value : goal.returns-clause-value
returns-clause-value c =
    let check = c.args.check.now in
    let verdicts = map arc_value c.args.verdicts.now.list.items in
    c.into_bytes.ensures.value (check_value check.program.now check.marks.now check.depth check.reach c.args.plan.now.callees verdicts)
    (c.in_ok-put_check.ensures
    ∙ ap
    (λ ts. ts
    ++ json_tokens (check_value check.program.now check.marks.now check.depth check.reach c.args.plan.now.callees (map arc_value c.as_slice.result.now)))
    c.new-text.ensures
    ∙ ap (λ vs. json_tokens (check_value check.program.now check.marks.now check.depth check.reach c.args.plan.now.callees (map arc_value vs)))
    c.as_slice.ensures.value)
    (check_depth check.program.now check.marks.now check.depth check.reach c.args.plan.now.callees verdicts)
