use Rattle.bit_net.proofs.Growth.{Grown-refl}
use Rattle.tr_call.proofs.Acting.{does_end}
use Rattle.tr_call.proofs.effects.ended.Goals as goal

pub returns-clause-ok : goal.returns-clause-ok
returns-clause-ok c =
    does_end _ _ _ _ c.constant-always.result.at c.args.ends.now _ _ (Grown-refl _)
    (λ choice v runs. c.constant-always.ensures.value choice v (c.in_ok-end_where.ensures.grown.runs choice v runs)) c.in_ok-end_where.ensures.ok c.in_ok-r.ensures
