use Rattle.sc_typing.specs.Tables.{here_of}
use Rattle.sc_declarations.specs.Declarations.{local_declared}
use Rattle.sc_declarations.proofs.Kept.{kept_by}
use Rattle.sc_declarations.proofs.declarations.local_named.Goals as goal

pub returns-clause-kept : goal.returns-clause-kept
returns-clause-kept c =
    let here = here_of c.args.here.now in
    kept_by (local_declared here c.args.words.now c.args.name c.args.at c.args.init.now c.args.t)
    c.local_declared.result c.args.walk.now c.local_declared.new.walk
    (c.no_local_has_a_global.ensures here c.args.words.now c.args.name c.args.at c.args.init.now c.args.t)
    c.local_declared.ensures
