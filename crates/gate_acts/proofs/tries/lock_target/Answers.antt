use Rattle.std.proofs.Common.{◌≡◌, ◌+◌, ◌-◌, arith}
use Rattle.bit_net.proofs.Growth.{Grown-refl}
use Rattle.gate_acts.proofs.Taking.{lock_null, lock_there}
use Rattle.gate_acts.proofs.tries.lock_target.Goals as goal

pub returns-then-pair-eq0-clause-ok : goal.returns-then-pair-eq0-clause-ok
returns-then-pair-eq0-clause-ok c = lock_null _ _ _ c.args.had.at c.args.pair _ c.requires.store c.if-pair-eq0.true

pub returns-clause-ok : goal.returns-clause-ok
returns-clause-ok c =
    let above : c.args.pair.target ≡ (c.args.pair.target - 1) + 1 = omega (arith, c.if-pair-eq0.false) in
    lock_there _ _ _ _ _ c.args.had.at c.in_ok-when.when.at (c.args.pair.target - 1) c.state_cell.result c.args.pair c.in_ok-locked.locked _ _ (Grown-refl _) c.in_ok-put_where.ensures.grown
    above c.state_cell.ensures c.in_ok-when.ensures.ok c.in_ok-locked.ensures c.in_ok-put_where.ensures.ok
