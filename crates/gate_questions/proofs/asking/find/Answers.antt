-- One of the choices shows it, or the solver tells.
use Rattle.std.proofs.Common.{◌∙◌, ap, length}
use Rattle.gate_questions.proofs.Holding.{some_in_lane, gates_below}
use Rattle.gate_questions.proofs.asking.find.Goals as goal

pub show-requires : goal.show-requires
show-requires g c = gates_below _ _ c.args.gates.now c.in_ok-evaluate.ensures.ok c.requires.gates

pub returns-then-show-clause-answer : goal.returns-then-show-clause-answer
returns-then-show-clause-answer g c =
    some_in_lane _ _ _ c.args.gates.now c.evaluate.ensures.words (gates_below _ _ c.args.gates.now c.in_ok-evaluate.ensures.ok c.requires.gates)
    (c.show.ensures c.if-show.true)

pub returns-clause-inputs : goal.returns-clause-inputs
returns-clause-inputs g c = c.ask.ensures.inputs ∙ ap (λ v. length v.items) c.evaluate.ensures.inputs ∙ c.requires.inputs

pub returns-clause-lanes : goal.returns-clause-lanes
returns-clause-lanes g c = c.ask.ensures.lanes c.evaluate.ensures.words

pub returns-in_err-evaluate-clause-inputs : goal.returns-in_err-evaluate-clause-inputs
returns-in_err-evaluate-clause-inputs g c = ap (λ v. length v.items) c.evaluate.ensures.inputs ∙ c.requires.inputs

pub returns-then-show-clause-inputs : goal.returns-then-show-clause-inputs
returns-then-show-clause-inputs g c = ap (λ v. length v.items) c.evaluate.ensures.inputs ∙ c.requires.inputs

pub returns-in_err-holds-clause-inputs : goal.returns-in_err-holds-clause-inputs
returns-in_err-holds-clause-inputs g c = c.ask.ensures.inputs ∙ ap (λ v. length v.items) c.evaluate.ensures.inputs ∙ c.requires.inputs

pub returns-in_err-holds-clause-lanes : goal.returns-in_err-holds-clause-lanes
returns-in_err-holds-clause-lanes g c = c.ask.ensures.lanes c.evaluate.ensures.words
