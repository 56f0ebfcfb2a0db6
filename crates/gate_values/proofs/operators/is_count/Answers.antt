use Rattle.gate_values.proofs.Taking.{count_gate}
use Rattle.gate_values.proofs.operators.is_count.Goals as goal

pub returns-clause-ok : goal.returns-clause-ok
returns-clause-ok c =
    count_gate _ _ c.args.b.now.bits.items c.in_ok-wide.wide.bits.items c.in_ok-bound.bound.bits.items c.args.width _ c.in_ok-low.ensures.grown c.requires.small
    c.requires.width c.in_ok-wide.ensures.ok c.in_ok-bound.ensures c.in_ok-low.ensures.ok
