use Rattle.sc_check.proofs.Kept.{gives_left, local_kept}
use Rattle.sc_check.proofs.heads.note_local.Goals as goal

pub returns-clause-kept : goal.returns-clause-kept
returns-clause-kept c =
    gives_left _ c.local_function.result c.local_function.new.walk c.args.walk.now.globals c.local_function.ensures
    ((local_kept c.args.file c.args.name c.args.is_local).kept c.args.walk.now)
