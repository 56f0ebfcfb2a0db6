use Rattle.std.proofs.Common.{ap}
use Rattle.run_world.specs.Seen as seen
use Rattle.run_world.specs.Seen.{env}
use Rattle.gate_stands.proofs.Arguing.{param_gate}
use Rattle.gate_stands.proofs.params.param_stands.Goals as goal

pub returns-in_ok-r-in-Param-clause-ok : goal.returns-in_ok-r-in-Param-clause-ok
unfolding env
returns-in_ok-r-in-Param-clause-ok c =
    param_gate (seen.env c.args.here.now).source (seen.env c.args.here.now).layout c.is_no_argument.new.net c.param_row_stands.new.net c.or.new.self
    c.args.args.now c.args.given.now c.args.outcome c.args.spot c.in-Param.n _ c.args.x.now c.as_slice.result.now _ _ _
    c.in_ok-row-in-Param.ensures.grown c.in_ok-r-in-Param.ensures.grown c.in-Param.is (ap (λ s. s.bit) c.spot_at-bit.ensures) c.as_slice.ensures
    c.in_ok-none-in-Param.ensures.ok c.in_ok-row-in-Param.ensures.ok c.in_ok-r-in-Param.ensures.ok
