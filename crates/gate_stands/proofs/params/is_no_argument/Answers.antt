use Rattle.gate_stands.proofs.Arguing.{argument_is, no_argument}
use Rattle.gate_stands.proofs.params.is_no_argument.Goals as goal

pub returns-in-None-clause-ok : goal.returns-in-None-clause-ok
returns-in-None-clause-ok c = no_argument _ c.args.args.now c.args.n _ c.in-None.ensures.lookup.3 c.constant.ensures

pub returns-in_ok-r-in-Some-clause-ok : goal.returns-in_ok-r-in-Some-clause-ok
returns-in_ok-r-in-Some-clause-ok c =
    argument_is _ _ c.args.args.now c.args.n c.in-Some.val.now _ _ c.in-Some.ensures.lookup.3.0 (c.in-Some.ensures.lookup.3.1 c.in-Some.val.now)
    c.in_ok-r-in-Some.ensures.grown c.in_ok-some-in-Some.ensures.ok c.in_ok-r-in-Some.ensures.ok
