use Rattle.sc_typing.specs.Tables.{here_of}
use Rattle.sc_typing.specs.Typing.{naming}
use Rattle.sc_declarations.proofs.Kept.{kept_by}
use Rattle.sc_declarations.proofs.declarations.type_named.Goals as goal

pub returns-clause-kept : goal.returns-clause-kept
returns-clause-kept c =
    kept_by (naming (here_of c.args.here.now) c.args.d.now.specs c.is_alone.result) c.specifiers.result
    c.args.walk.now c.specifiers.new.walk
    (c.specifiers_keep_globals.ensures (here_of c.args.here.now) c.args.d.now.specs c.is_alone.result)
    c.specifiers.ensures
