use Rattle.sc_typing.specs.Tables.{here_of}
use Rattle.sc_check.proofs.Kept.{gives_left}
use Rattle.sc_check.proofs.heads.shape_of.Goals as goal

pub returns-clause-kept : goal.returns-clause-kept
returns-clause-kept c =
    gives_left _ c.head.result c.head.new.walk c.args.walk.now.globals c.head.ensures
    ((c.heads_keep_globals.ensures (here_of c.args.here.now) c.args.h.now c.args.at).kept c.args.walk.now)
