use Rattle.sc_check.proofs.Kept.{closes_left}
use Rattle.sc_check.proofs.heads.close_params.Goals as goal

pub returns-clause-kept : goal.returns-clause-kept
returns-clause-kept c = closes_left c.close_scope.result c.args.walk.now c.close_scope.new.walk c.close_scope.ensures
