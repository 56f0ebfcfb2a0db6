-- One gate more.
use Rattle.std.proofs.Common.{Bool, take, get_or, sym, ap, ◌∙◌, arith}
use Rattle.std.specs.List.{list_all}
use Rattle.std.proofs.lemmas.List.{take_all}
use Rattle.std.proofs.lemmas.List.Folds.{list_all_more, list_all_at}
use Rattle.std.proofs.lemmas.Bool.{and_from}
use Rattle.bit_net.specs.declared.nodes.Gate.{Gate}
use Rattle.bit_net.specs.Lanes.{bit}
use Rattle.gate_questions.proofs.lanes.hold_in.Goals as goal

pub holds_in-requires-clause-gate : goal.holds_in-requires-clause-gate
holds_in-requires-clause-gate c =
    let d : Gate = record { at = 0 } in c.requires.gates c.loop-gate.gate-index d c.loop-gate-test.true

pub returns-then-not-holds_in : goal.returns-then-not-holds_in
returns-then-not-holds_in c =
    let d : Gate = record { at = 0 } in
    let p : Gate → Bool = λ g. bit (get_or c.args.words.now g.at 0) c.args.lane in
    sym (list_all_at p c.args.gates.now c.loop-gate.gate-index d c.loop-gate-test.true (sym c.holds_in.ensures ∙ c.if-not-holds_in.true))

pub loop-gate-preserved : goal.loop-gate-preserved
loop-gate-preserved c =
    let d : Gate = record { at = 0 } in
    let p : Gate → Bool = λ g. bit (get_or c.args.words.now g.at 0) c.args.lane in
    let i = c.loop-gate.gate-index in
    list_all_more p c.args.gates.now i d c.loop-gate-test.true
    ∙ and_from (list_all p (take i c.args.gates.now)) (p (get_or c.args.gates.now i d)) c.loop-gate.invariant
    (sym c.holds_in.ensures ∙ c.if-not-holds_in.false)

pub returns : goal.returns
returns c =
    let p : Gate → Bool = λ g. bit (get_or c.args.words.now g.at 0) c.args.lane in
    sym (ap (list_all p) (sym (take_all c.loop-gate.gate-index c.args.gates.now (omega arith))) ∙ c.loop-gate.invariant)
