-- Questions may be asked about the net.
use Rattle.gate_questions.specs.Ready.{IsReady}
use Rattle.proof_tests.proofs.first_choices.asked_often.Given as goal

abbrev pub invariant-loop-question : goal.invariant-loop-question
invariant-loop-question l = IsReady l.net l.questions
