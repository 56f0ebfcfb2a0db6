use Rattle.sc_check.proofs.Kept.{gives_left, declare_kept}
use Rattle.sc_check.proofs.heads.declare.Goals as goal

pub returns-clause-kept : goal.returns-clause-kept
returns-clause-kept c =
    gives_left _ c.declare_function_if.result c.declare_function_if.new.walk c.args.walk.now.globals
    c.declare_function_if.ensures
    ((declare_kept c.args.name c.args.at _ c.args.brackets).kept c.args.walk.now)
