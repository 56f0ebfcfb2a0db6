use Rattle.std.proofs.Common.{◌≡◌, sym, ◌∙◌, subst, OnOk, List}
use Rattle.sc_typed.specs.declared.program.Global.{Global}
use Rattle.sc_declare.proofs.Keys.{known, fresh}
use Rattle.sc_declare.proofs.linkage.with_global.Goals as goal

pub returns-then-contains-clause-added : goal.returns-then-contains-clause-added
returns-then-contains-clause-added c =
    known c.args.key c.args.numbers.now c.args.globals.now c.args.ctype c.requires (sym c.contains.ensures ∙ c.if-contains.true)

pub returns-clause-added : goal.returns-clause-added
returns-clause-added c =
    subst (λ (gs : List Global). OnOk c.push.result (c.push.new.self ≡ gs))
    (fresh c.args.key c.args.numbers.now c.args.globals.now c.args.ctype c.requires (sym c.contains.ensures ∙ c.if-contains.false)) c.push.ensures.ok
