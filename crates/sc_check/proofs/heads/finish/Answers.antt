use Rattle.std.proofs.Common.{refl}
use Rattle.sc_check.proofs.Kept.{gives_left}
use Rattle.sc_check.proofs.heads.finish.Goals as goal

pub returns-clause-kept : goal.returns-clause-kept
returns-clause-kept c =
    gives_left _ c.finish_function.result c.finish_function.new.walk c.args.walk.now.globals
    c.finish_function.ensures refl
