-- By the answer of the solver.
use Rattle.std.proofs.Common.{◌≤◌, sym, subst, arith}
use Rattle.sat_base.specs.Logic.{LitsBelow, each_true}
use Rattle.query.specs.Values.{IsFound}
use Rattle.query.specs.Lower.{AsksLower}
use Rattle.query.proofs.Lowering.{extends_kept, lower_found, length_seen, below_more}
use Rattle.query.proofs.least_model.find_lower.Goals as goal

pub lower_question-requires-clause-values : goal.lower_question-requires-clause-values
lower_question-requires-clause-values g c = length_seen _ _ _ _ c.requires.seen

pub model_of-requires-clause-bits : goal.model_of-requires-clause-bits
model_of-requires-clause-bits g c = below_more _ _ c.args.bits.now c.in_ok-question.ensures.vars c.requires.bits

pub model_of-requires-clause-fixed : goal.model_of-requires-clause-fixed
model_of-requires-clause-fixed g c = rw c.as_slice.ensures.value c.in_ok-question.ensures.below

pub returns-in_err-lower-clause-clauses : goal.returns-in_err-lower-clause-clauses
returns-in_err-lower-clause-clauses g c = extends_kept _ _ _ _ c.in_err-lower.ensures.clauses c.in_ok-question.ensures.clauses

pub returns-clause-clauses : goal.returns-clause-clauses
returns-clause-clauses g c = extends_kept _ _ _ _ c.in_ok-lower.ensures.clauses c.in_ok-question.ensures.clauses

pub returns-clause-lower : goal.returns-clause-lower
returns-clause-lower g c =
    lower_found _ _ _ c.args.bits.now c.args.goals.now c.in_ok-question.question.items c.args.values.now c.in_ok-lower.lower c.in_ok-lower.ensures.clauses
    c.requires.seen c.in_ok-question.ensures.asks c.in_ok-question.ensures.goals (rw c.as_slice.ensures.value at c.in_ok-lower.ensures.found)
