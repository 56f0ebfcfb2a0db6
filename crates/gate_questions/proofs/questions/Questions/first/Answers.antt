-- What was found.
use Rattle.std.proofs.Common.{sym, subst, ◌∙◌}
use Rattle.std.proofs.lemmas.Bool.{false≢true}
use Rattle.gate_questions.specs.Ready.{IsReady}
use Rattle.gate_questions.proofs.questions.Questions.first.Goals as goal

pub find_first-requires-clause-loaded : goal.find_first-requires-clause-loaded
find_first-requires-clause-loaded g c =
    let ready = subst (IsReady c.args.net.now) (sym c.self.view_is) c.requires.ready in ready.loaded c.if-not-self.false

pub find_first-requires-clause-count : goal.find_first-requires-clause-count
find_first-requires-clause-count g c =
    let ready = subst (IsReady c.args.net.now) (sym c.self.view_is) c.requires.ready in c.input_count-bits.ensures ∙ ready.inputs

pub returns-in_err-found-clause-ready : goal.returns-in_err-found-clause-ready
returns-in_err-found-clause-ready g c =
    let ready = subst (IsReady c.args.net.now) (sym c.self.view_is) c.requires.ready in
    record { loaded = λ usable. absurd (false≢true usable); inputs = ready.inputs; lanes = ready.lanes }

pub returns-clause-ready : goal.returns-clause-ready
returns-clause-ready g c =
    let ready = subst (IsReady c.args.net.now) (sym c.self.view_is) c.requires.ready in
    record { loaded = λ _. c.in_ok-found.ensures.loaded; inputs = ready.inputs; lanes = ready.lanes }
