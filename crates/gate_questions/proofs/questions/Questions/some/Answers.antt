-- A constant, or what was found.
use Rattle.std.proofs.Common.{sym, subst}
use Rattle.std.proofs.lemmas.Bool.{false≢true}
use Rattle.gate_questions.specs.Ready.{IsReady}
use Rattle.gate_questions.proofs.questions.Questions.some.Goals as goal

pub returns-then-is_never-clause-answer : goal.returns-then-is_never-clause-answer
returns-then-is_never-clause-answer g c = c.is_never.ensures c.if-is_never.true

pub find-requires-clause-loaded : goal.find-requires-clause-loaded
find-requires-clause-loaded g c =
    let ready = subst (IsReady c.args.net.now) (sym c.self.view_is) c.requires.ready in ready.loaded c.if-not-self.false

pub find-requires-clause-inputs : goal.find-requires-clause-inputs
find-requires-clause-inputs g c =
    let ready = subst (IsReady c.args.net.now) (sym c.self.view_is) c.requires.ready in ready.inputs

pub find-requires-clause-lanes : goal.find-requires-clause-lanes
find-requires-clause-lanes g c =
    let ready = subst (IsReady c.args.net.now) (sym c.self.view_is) c.requires.ready in ready.lanes

pub returns-in_err-holds-clause-ready : goal.returns-in_err-holds-clause-ready
returns-in_err-holds-clause-ready g c =
    record { loaded = λ usable. absurd (false≢true usable); inputs = c.find.ensures.inputs; lanes = c.find.ensures.lanes }

pub returns-clause-ready : goal.returns-clause-ready
returns-clause-ready g c =
    record { loaded = λ _. c.in_ok-holds.ensures.loaded; inputs = c.find.ensures.inputs; lanes = c.find.ensures.lanes }
