use Rattle.std.proofs.Common.{sym, ◌∙◌}
use Rattle.tr_expr.proofs.Making.{converted_bool}
use Rattle.tr_expr.proofs.constructs.converted.Goals as goal

pub returns-in_ok-made-clause-ok : goal.returns-in_ok-made-clause-ok
returns-in_ok-made-clause-ok c =
    converted_bool _ _ _ _ _ _ _ (sym c.is_bool.ensures ∙ c.if-is_bool.true) c.requires.fits c.requires.kind c.in_ok-some.ensures.ok c.in_ok-made.ensures
