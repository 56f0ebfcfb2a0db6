use Rattle.fn_questions.proofs.Ready.{answer_shown, asked_on, ready_to_ask_grows}
use Rattle.fn_questions.proofs.facts.Facts.question.Goals as goal

pub returns-in_err-says-clause-ready : goal.returns-in_err-says-clause-ready
returns-in_err-says-clause-ready c =
    asked_on _ _ c.args.self.now c.says.new.self c.says.ensures.grown c.requires.ready c.says.ensures.facts c.says.ensures.around c.says.ensures.texts

pub returns-clause-ready : goal.returns-clause-ready
returns-clause-ready c =
    asked_on _ _ c.args.self.now c.says.new.self c.in_ok-says.ensures.grown c.requires.ready c.says.ensures.facts c.says.ensures.around
    c.says.ensures.texts

pub returns-clause-ok : goal.returns-clause-ok
returns-clause-ok c =
    answer_shown _ _ _ _ (ready_to_ask_grows _ _ _ c.in_ok-says.ensures.grown c.requires.ready) c.in_ok-says.ensures.ok
