use Rattle.std.proofs.Common.{◌-◌, arith}
use Rattle.gate_places.proofs.Checking.{null_test, target_test}
use Rattle.gate_places.proofs.checks.target_fails.Goals as goal

pub returns-then-target-eq0 : goal.returns-then-target-eq0
returns-then-target-eq0 c =
    null_test _ _ c.args.check _ _ c.args.target _ _ c.if-target-eq0.true c.is_null_check.ensures c.constant.ensures

pub returns-else-target-eq0 : goal.returns-else-target-eq0
returns-else-target-eq0 c =
    target_test _ _ c.args.check _ _ c.args.target (c.args.target - 1) _ (omega arith) c.location_fails.ensures
