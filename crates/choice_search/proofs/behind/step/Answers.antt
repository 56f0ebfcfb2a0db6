use Rattle.choice_search.proofs.Steps.{turning_starts, turn_set, turn_found}
use Rattle.choice_search.proofs.behind.step.Goals as goal

pub loop-at-init : goal.loop-at-init
loop-at-init c = turning_starts c.args.choice.now

pub loop-at-preserved : goal.loop-at-preserved
loop-at-preserved c =
    turn_set c.args.choice.now c.loop-at.choice c.loop-at.at _ c.loop-at-test.true c.loop-at.invariant
    c.if-choice-at.true

pub returns-else-choice-at-clause-some : goal.returns-else-choice-at-clause-some
returns-else-choice-at-clause-some c some =
    turn_found c.args.choice.now c.loop-at.choice c.loop-at.at _ c.loop-at-test.true c.loop-at.invariant
    c.if-choice-at.false
