use Rattle.net_goals.specs.Numbers.{AreNumbered}
use Rattle.net_goals.proofs.goals.numbered.Given as goal

-- the marked gates below this one have their variables
abbrev pub invariant-loop-at : goal.invariant-loop-at
invariant-loop-at l = record { numbered : AreNumbered l.net l.inputs l.marks l.at l.making }
