use Rattle.gate_fails.proofs.Acting.{argument_past, argument_there}
use Rattle.gate_fails.proofs.params.argument_effect.Goals as goal

pub returns-in-None-clause-ok : goal.returns-in-None-clause-ok
returns-in-None-clause-ok c = argument_past _ _ c.args.args.now c.args.n c.args.bit _ c.args.ends.now c.requires.store c.in-None.ensures.lookup.3

pub returns-in_ok-param_effect-in-Some-clause-ok : goal.returns-in_ok-param_effect-in-Some-clause-ok
returns-in_ok-param_effect-in-Some-clause-ok c =
    argument_there _ _ c.args.args.now c.args.n c.args.bit c.in-Some.val.now _ _ c.args.ends.now _ c.in-Some.ensures.lookup.3.0
    (c.in-Some.ensures.lookup.3.1 c.in-Some.val.now) c.in_ok-param_effect-in-Some.ensures.ok
