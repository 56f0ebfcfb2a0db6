use Rattle.std.proofs.Common.{◌∙◌}
use Rattle.run_world.specs.Seen.{env}
use Rattle.gate_acts.proofs.Operating.{does_operation}
use Rattle.gate_acts.proofs.operations.operation.Goals as goal

pub returns-clause-ok : goal.returns-clause-ok
unfolding env
returns-clause-ok c =
    does_operation _ _ _ _ _ _ _ c.args.operation _ c.args.val.now _ c.in_ok-pointer.pointer.pairs.items _ _ _ _ _ _ c.in_ok-reach.ensures.grown c.in_ok-mark.ensures.grown
    c.in_ok-operate_each.ensures.grown c.in_ok-pointer.ensures c.in_ok-reach.ensures.ok c.in_ok-mark.ensures.ok
    _ c.as_slice.ensures c.in_ok-operate_each.ensures.ok c.in_ok-r.ensures
    (c.in_ok-reach.ensures.locations ∙ c.requires.bads)
