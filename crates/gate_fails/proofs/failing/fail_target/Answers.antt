use Rattle.std.proofs.Common.{◌≡◌, suc, ◌-◌, arith}
use Rattle.gate_fails.proofs.Ending.{fails_null, fails_there}
use Rattle.gate_fails.proofs.failing.fail_target.Goals as goal

pub returns-then-pair-eq0-clause-ok : goal.returns-then-pair-eq0-clause-ok
returns-then-pair-eq0-clause-ok c = fails_null _ c.args.pair c.args.ends.now c.if-pair-eq0.true

pub returns-clause-ok : goal.returns-clause-ok
returns-clause-ok c =
    let above : c.args.pair.target ≡ suc (c.args.pair.target - 1) = omega (arith, c.if-pair-eq0.false) in
    fails_there _ c.args.pair (c.args.pair.target - 1) c.args.ends.now _ above c.in_ok-fail_where.ensures.ok
