use Rattle.std.proofs.Common.{arith}
use Rattle.bit_net.proofs.Growth.{Grown-refl}
use Rattle.gate_fails.proofs.Erring.{target_aside, target_errs}
use Rattle.gate_fails.proofs.errors.err_target.Goals as goal

pub returns-then-is_never-clause-ok : goal.returns-then-is_never-clause-ok
returns-then-is_never-clause-ok c =
    target_aside _ _ c.args.erring.now.pairs.items c.args.has_error.at _ c.args.ends.now _ (omega (arith, c.requires.store, c.in_ok-need_row.ensures.grown.longer))
    (Grown-refl _) c.in_ok-need_row.ensures.ok (c.is_never.ensures.never c.if-is_never.true)

pub returns-clause-ok : goal.returns-clause-ok
returns-clause-ok c =
    target_errs _ _ _ c.args.erring.now.pairs.items _ c.args.has_error.at _ _ c.args.ends.now _ _ c.in_ok-mark_where.ensures.grown c.in_ok-fail_each.ensures.grown
    c.in_ok-need_row.ensures.ok c.in_ok-mark_where.ensures.ok c.as_slice.ensures c.in_ok-fail_each.ensures.ok
