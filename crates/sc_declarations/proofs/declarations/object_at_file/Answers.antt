use Rattle.std.specs.Option.{option_copied}
use Rattle.sc_files.specs.Variables.{object_if}
use Rattle.sc_declarations.proofs.Kept.{kept_of}
use Rattle.sc_declarations.proofs.declarations.object_at_file.Goals as goal

pub returns-clause-kept : goal.returns-clause-kept
returns-clause-kept c =
    let t = option_copied c.args.t in
    kept_of (object_if c.widths.result c.args.defines c.args.at t) c.object_if.result c.args.walk.now
    c.object_if.new.walk (c.objects_keep_globals.ensures c.widths.result c.args.defines c.args.at t)
    c.object_if.ensures
