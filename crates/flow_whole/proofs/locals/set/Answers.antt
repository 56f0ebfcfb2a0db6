use Rattle.std.proofs.Common.{◌∙◌, sym, ap}
use Rattle.run_laws.specs.Fits.{is_scalar}
use Rattle.sc_world.specs.Source.{Source}
use Rattle.sc_world.specs.Tree.{type_of}
use Rattle.sc_flow.specs.Seen.{expression}
use Rattle.flow_whole.proofs.locals.set.Goals as goal

pub set-requires-clause-scalar : goal.set-requires-clause-scalar
set-requires-clause-scalar g c =
    ap is_scalar (sym (c.type_of-ctype.ensures ∙ ap (λ (s : Source). type_of (expression s.structs c.args.setting.now.expression)) c.requires.laid.source))
    ∙ (sym c.is_scalar.ensures ∙ c.if-is_scalar.true)

pub set_object-requires-clause-typed : goal.set_object-requires-clause-typed
set_object-requires-clause-typed g c = c.type_of-ctype.ensures ∙ ap (λ (s : Source). type_of (expression s.structs c.args.setting.now.expression)) c.requires.laid.source

pub set_object-requires-clause-object : goal.set_object-requires-clause-object
set_object-requires-clause-object g c =
    ap is_scalar (sym (c.type_of-ctype.ensures ∙ ap (λ (s : Source). type_of (expression s.structs c.args.setting.now.expression)) c.requires.laid.source))
    ∙ (sym c.is_scalar.ensures ∙ c.if-is_scalar.false)
