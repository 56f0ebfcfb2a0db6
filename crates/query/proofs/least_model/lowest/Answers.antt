-- The values are the least, or bit by bit.
use Rattle.query.proofs.Lowering.{if_ok, least_extended, below_more}
use Rattle.query.proofs.least_model.lowest.Goals as goal

pub least_from-requires-clause-bits : goal.least_from-requires-clause-bits
least_from-requires-clause-bits g c = below_more _ _ c.args.bits.now c.in_ok-lower.ensures.vars c.requires.bits

pub least_from-requires-clause-goals : goal.least_from-requires-clause-goals
least_from-requires-clause-goals g c = below_more _ _ c.args.goals.now c.in_ok-lower.ensures.vars c.requires.goals

pub returns-in-Some-clause-least : goal.returns-in-Some-clause-least
returns-in-Some-clause-least g c =
    if_ok c.least_from.result _ _
    (λ least is.
    least_extended _ _ _ c.args.bits.now c.args.goals.now least.items c.in_ok-lower.ensures.clauses c.requires.bits c.requires.goals is)
    c.least_from.ensures.least
