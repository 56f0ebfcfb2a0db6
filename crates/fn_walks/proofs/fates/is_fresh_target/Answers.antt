use Rattle.std.proofs.Common.{◌-◌, arith}
use Rattle.fn_walks.proofs.Fating.{null_target, target_shown}
use Rattle.fn_walks.proofs.fates.is_fresh_target.Goals as goal

pub returns-then-target-eq0-clause-ok : goal.returns-then-target-eq0-clause-ok
returns-then-target-eq0-clause-ok c = null_target _ _ _ c.args.target _ c.if-target-eq0.true c.constant.ensures

pub returns-clause-ok : goal.returns-clause-ok
returns-clause-ok c = target_shown _ _ _ c.args.target (c.args.target - 1) _ (omega arith) c.in_ok-fresh.ensures.ok
