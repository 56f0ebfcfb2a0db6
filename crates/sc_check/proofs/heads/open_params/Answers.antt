use Rattle.std.proofs.Common.{refl}
use Rattle.sc_check.proofs.Kept.{gives_left}
use Rattle.sc_check.proofs.heads.open_params.Goals as goal

pub returns-clause-kept : goal.returns-clause-kept
returns-clause-kept c =
    gives_left _ c.open_again.result c.open_again.new.walk c.args.walk.now.globals c.open_again.ensures.ok refl
