use Rattle.sc_typing.specs.Tables.{here_of}
use Rattle.sc_lengths.specs.Lengths.{completed_type}
use Rattle.sc_declarations.proofs.Kept.{kept_by}
use Rattle.sc_declarations.proofs.declarations.completed.Goals as goal

pub returns-clause-kept : goal.returns-clause-kept
returns-clause-kept c =
    let here = here_of c.args.here.now in
    kept_by (completed_type here c.args.init.now c.args.t.now) c.completed_type.result c.args.walk.now
    c.completed_type.new.walk (c.lengths_keep_globals.ensures here c.args.init.now c.args.t.now)
    c.completed_type.ensures
