use Rattle.gate_paths.proofs.Leading.{argument_none, argument_some}
use Rattle.gate_paths.proofs.paths.argument.Goals as goal

pub returns-in-None : goal.returns-in-None
returns-in-None c = argument_none _ c.args.args.now c.args.n _ c.in-None.ensures.lookup.3 c.one.ensures.good.below c.one.ensures.points

pub returns-in_ok-pointer-in-Some : goal.returns-in_ok-pointer-in-Some
returns-in_ok-pointer-in-Some c =
    argument_some _ c.args.args.now c.args.n c.in-Some.val.now _ c.in-Some.ensures.lookup.3.0 (c.in-Some.ensures.lookup.3.1 c.in-Some.val.now)
    c.in_ok-pointer-in-Some.ensures
