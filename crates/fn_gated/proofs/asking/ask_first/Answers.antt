-- The gate answers as the runs do.
use Rattle.std.proofs.Common.{◌∙◌}
use Rattle.run_questions.specs.Seen.{query}
use Rattle.fn_gated.proofs.Firsts.{first_found}
use Rattle.fn_gated.proofs.asking.ask_first.Goals as goal

pub returns-clause-first : goal.returns-clause-first
returns-clause-first g c =
    let s = g.G.Gated.source c.args.gates.now in
    let x = g.G.Gated.texts c.args.gates.now in
    let q = query c.args.asked in
    let law = c.gates_answer_as_runs_do.ensures in
    let inputs = c.in_ok-gate.ensures.grown.inputs ∙ c.requires.inputs in
    first_found s x q c.gate.new.net c.in_ok-gate.gate c.in_ok-found.found
    (law.none s x q c.gate.new.net c.in_ok-gate.gate c.sound.ensures inputs c.in_ok-gate.ensures.gate)
    (λ bits. law.first s x q c.gate.new.net c.in_ok-gate.gate bits c.sound.ensures inputs c.in_ok-gate.ensures.gate)
    c.in_ok-found.ensures.first

pub first-requires-clause-ready : goal.first-requires-clause-ready
first-requires-clause-ready g c =
    c.what_may_be_asked_stays.ensures c.args.net.now c.gate.new.net c.args.questions.now c.in_ok-gate.ensures.grown c.requires.asks
