use Rattle.std.proofs.Common.{sym}
use Rattle.gate_fails.proofs.Acting.{does_params}
use Rattle.gate_fails.proofs.params.params_act.Goals as goal

pub returns-clause-ok : goal.returns-clause-ok
returns-clause-ok c =
    does_params _ _ c.args.called.now _ _ _ _ _ _ (sym c.as_slice-items.ensures) c.spots_of-spot.ensures.params c.in_ok-act_each.ensures.ok
