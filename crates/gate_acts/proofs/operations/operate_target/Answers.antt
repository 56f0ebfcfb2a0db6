use Rattle.std.proofs.Common.{◌≡◌, ◌+◌, ◌-◌, ◌<◌, length, arith}
use Rattle.gate_acts.proofs.Operating.{target_skipped, target_there}
use Rattle.gate_acts.proofs.operations.operate_target.Goals as goal
use Rattle.gate_acts.proofs.operations.operate_target.Goals.{then-target-eq0-via-then-target-eq0, then-target-eq0-via-else-target-eq0+then-target-len}

pub returns-then-target-eq0-clause-ok : goal.returns-then-target-eq0-clause-ok
returns-then-target-eq0-clause-ok c = target_skipped _ _ _ c.args.operation _ c.args.pair _ _ c.requires.store
    (λ some. elim c.then-target-eq0.branch [ then-target-eq0-via-then-target-eq0 w ↦ omega arith | then-target-eq0-via-else-target-eq0+then-target-len w ↦ omega arith ])

pub returns-clause-ok : goal.returns-clause-ok
returns-clause-ok c =
    let above : c.args.pair.target ≡ (c.args.pair.target - 1) + 1 = omega (arith, c.if-target-eq0.false) in
    let low : c.args.pair.target - 1 < length c.args.ends.now.bads.items = omega arith in
    target_there _ _ _ c.args.operation _ (c.args.pair.target - 1) c.args.pair _ _ _ _ above low c.in_ok-operate_at.ensures.ok
