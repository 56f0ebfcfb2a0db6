use Rattle.std.proofs.Common.{arith}
use Rattle.gate_elements.proofs.Leading.{index_gate}
use Rattle.gate_elements.proofs.elements.is_index.Goals as goal

pub returns-clause-ok : goal.returns-clause-ok
returns-clause-ok c =
    index_gate _ _ c.args.index.now.bits.items c.in_ok-wide.wide.bits.items c.in_ok-bound.bound.bits.items c.args.value _ c.in_ok-same.ensures.grown c.requires.small
    (omega arith) c.in_ok-wide.ensures.ok c.in_ok-bound.ensures c.in_ok-same.ensures.ok
