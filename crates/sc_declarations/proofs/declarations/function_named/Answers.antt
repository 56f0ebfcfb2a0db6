use Rattle.std.specs.Option.{option_copied}
use Rattle.sc_declare.specs.Declarators.{function_declared}
use Rattle.sc_declarations.proofs.Kept.{kept_by}
use Rattle.sc_declarations.proofs.declarations.function_named.Goals as goal

pub returns-clause-kept : goal.returns-clause-kept
returns-clause-kept c =
    let t = option_copied c.args.t in
    let params = option_copied c.params_if.result in
    kept_by (function_declared c.file.result c.args.is_local c.args.name c.args.at t params)
    c.function_declared.result c.args.walk.now c.function_declared.new.walk
    (c.functions_keep_globals.ensures c.file.result c.args.is_local c.args.name c.args.at t params)
    c.function_declared.ensures
