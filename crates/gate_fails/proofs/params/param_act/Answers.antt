use Rattle.std.proofs.Common.{ap}
use Rattle.run_world.specs.Seen.{env}
use Rattle.gate_fails.proofs.Acting.{act_there}
use Rattle.gate_fails.proofs.params.param_act.Goals as goal

pub returns-in_ok-argument_effect-in-Param-clause-ok : goal.returns-in_ok-argument_effect-in-Param-clause-ok
unfolding env
returns-in_ok-argument_effect-in-Param-clause-ok c =
    act_there _ _ c.args.args.now c.args.spot c.in-Param.n _ c.args.item.now _ _ c.args.ends.now _ c.in-Param.is (ap (λ s. s.bit) c.spot_at-bit.ensures)
    c.in_ok-argument_effect-in-Param.ensures.ok
