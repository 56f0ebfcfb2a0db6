use Rattle.sc_declare.specs.Declarators.{typedef_declared}
use Rattle.sc_declarations.proofs.Kept.{kept_by}
use Rattle.sc_declarations.proofs.declarations.typedef_named.Goals as goal

pub returns-clause-kept : goal.returns-clause-kept
returns-clause-kept c =
    kept_by (typedef_declared c.args.name c.args.at c.args.t) c.typedef_declared.result
    c.args.walk.now c.typedef_declared.new.walk (c.typedefs_keep_globals.ensures c.args.name c.args.at c.args.t)
    c.typedef_declared.ensures
