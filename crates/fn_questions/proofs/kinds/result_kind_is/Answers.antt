use Rattle.std.proofs.Common.{sym, ◌∙◌}
use Rattle.fn_questions.proofs.Kinding.{no_result_shown, result_kind_shown}
use Rattle.fn_questions.proofs.kinds.result_kind_is.Goals as goal

pub returns-then-gives_pointer-clause-ok : goal.returns-then-gives_pointer-clause-ok
returns-then-gives_pointer-clause-ok c =
    result_kind_shown _ _ c.args.walk.now.from c.args.wanted _ c.requires.from (sym c.gives_pointer.ensures ∙ c.if-gives_pointer.true)
    c.in_ok-kind.ensures.ok

pub returns-clause-ok : goal.returns-clause-ok
returns-clause-ok c =
    no_result_shown _ _ c.args.wanted _ _ (sym c.gives_pointer.ensures ∙ c.if-gives_pointer.false) c.is_nil.ensures c.constant.ensures
