-- The first two lines, and then the operations, make up what the bytes spell.
use Rattle.std.proofs.Common.{◌≡◌, ◌∙◌, ap, sym, subst, Ok, List, Err}
use Rattle.fsm_spec.specs.Reading.{spelled, spelled_by, Answers, Spelled}
use Rattle.fsm_spec.specs.declared.table.Operation.{Operation}
use Rattle.fsm_spec.specs.Steps.{Gives, operations_answer}
use Rattle.fsm_spec.specs.Words.{lines}
use Rattle.fsm_spec.proofs.ReadingProofs.{spelled_gives, spelled_after, fault_answers}
use Rattle.fsm_spec.proofs.reading.machine.Goals as goal

pub returns-in_err-operations : goal.returns-in_err-operations
unfolding spelled
returns-in_err-operations c =
    let s : spelled_by c.of-lines.result ≡ spelled_after c.in_ok-name.name c.in_ok-states.states (operations_answer c.in_ok-states.states c.next-2.new.self) = spelled_gives _ _ _ _ _ _ _ c.next.ensures c.next-2.ensures c.in_ok-name.ensures c.in_ok-states.ensures in
    let g : Gives {X = List Operation} (Err c.in_err-operations.field-0.0) (operations_answer c.as_slice.result.now c.next-2.new.self) = c.in_err-operations.ensures in
    let h : Gives {X = List Operation} (Err c.in_err-operations.field-0.0) (operations_answer c.in_ok-states.states c.next-2.new.self) = rw (← c.as_slice.ensures) g in
    let whole : spelled_by c.of-lines.result ≡ spelled_by (lines c.args.bytes.now) = ap spelled_by c.of-lines.ensures in
    let P : Spelled → Type 0 = λ x. Answers c.from_residual-in_err-operations.result x in
    subst P (sym s ∙ whole) (fault_answers _ c.in_err-operations.field-0.0 _ _ _ c.from_residual-in_err-operations.ensures.1 h)

pub returns : goal.returns
unfolding spelled
returns c =
    let s : spelled_by c.of-lines.result ≡ spelled_after c.in_ok-name.name c.in_ok-states.states (operations_answer c.in_ok-states.states c.next-2.new.self) = spelled_gives _ _ _ _ _ _ _ c.next.ensures c.next-2.ensures c.in_ok-name.ensures c.in_ok-states.ensures in
    let o : operations_answer c.as_slice.result.now c.next-2.new.self ≡ Ok c.in_ok-operations.operations = c.in_ok-operations.ensures in
    let read : operations_answer c.in_ok-states.states c.next-2.new.self ≡ Ok c.in_ok-operations.operations = rw (← c.as_slice.ensures) o in
    ap spelled_by (sym c.of-lines.ensures) ∙ s ∙ ap (spelled_after c.in_ok-name.name c.in_ok-states.states) read
