use Rattle.std.proofs.Common.{sym, ◌∙◌}
use Rattle.fn_facts.proofs.Given.{other_shown}
use Rattle.fn_facts.proofs.entry.is_chosen.Goals as goal

pub returns-clause-ok : goal.returns-clause-ok
returns-clause-ok c =
    other_shown _ _ _ c.args.bit c.args.own _ (sym c.is_pointer.ensures ∙ c.if-is_pointer.false) (sym c.is_integer.ensures ∙ c.if-is_integer.false)
    c.constant.ensures
