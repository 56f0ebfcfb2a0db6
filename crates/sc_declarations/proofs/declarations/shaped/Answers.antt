use Rattle.sc_typing.specs.Tables.{here_of}
use Rattle.sc_typing.specs.Typing.{declaring}
use Rattle.sc_declarations.proofs.Kept.{kept_by}
use Rattle.sc_declarations.proofs.declarations.shaped.Goals as goal

pub returns-clause-kept : goal.returns-clause-kept
returns-clause-kept c =
    kept_by ((declaring (here_of c.args.here.now) c.args.d.now).run c.args.at c.args.t) c.declarator.result
    c.args.walk.now c.declarator.new.walk
    (c.declarators_keep_globals.ensures (here_of c.args.here.now) c.args.d.now c.args.at c.args.t)
    c.declarator.ensures
