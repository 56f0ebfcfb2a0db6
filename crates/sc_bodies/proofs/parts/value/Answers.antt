use Rattle.sc_typing.specs.Tables.{here_of}
use Rattle.sc_bodies.proofs.Kept.{gives_left}
use Rattle.sc_bodies.proofs.parts.value.Goals as goal

pub returns-clause-kept : goal.returns-clause-kept
returns-clause-kept c =
    gives_left _ c.valued_expression.result c.valued_expression.new.walk c.args.walk.now.globals
    c.valued_expression.ensures
    ((c.values_keep_globals.ensures (here_of c.args.here.now) c.args.e.now).kept c.args.walk.now)
