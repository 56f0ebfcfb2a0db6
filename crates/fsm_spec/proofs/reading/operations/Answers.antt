-- A line goes behind those so far, or breaks the form.
use Rattle.std.proofs.Common.{◌≡◌, ◌<◌, length, Some, None, arith, sym, ◌∙◌}
use Rattle.fsm_spec.specs.Steps.{next_in}
use Rattle.fsm_spec.proofs.ReadingProofs.{reads_more, reads_broken, reads_end, reads_none}
use Rattle.fsm_spec.proofs.reading.operations.Goals as goal

pub returns-in_default-2 : goal.returns-in_default-2
returns-in_default-2 c =
    let a : c.in_ok-operation.field-0 ≡ next_in c.args.states.now c.as_slice.result.now c.in-Some.line.now = c.in_ok-operation.ensures in
    let none : next_in c.args.states.now c.loop-line.operations c.in-Some.line.now ≡ None = rw (← c.as_slice.ensures) (sym a ∙ c.in_default-2.is) in
    rw c.len.ensures (reads_broken _ _ _ _ _ _ c.loop-line.invariant c.in-Some.ensures none)

pub loop-line-preserved : goal.loop-line-preserved
loop-line-preserved c =
    let a : c.in_ok-operation.field-0 ≡ next_in c.args.states.now c.as_slice.result.now c.in-Some.line.now = c.in_ok-operation.ensures in
    let some : next_in c.args.states.now c.loop-line.operations c.in-Some.line.now ≡ Some c.in-Some-2.operation = rw (← c.as_slice.ensures) (sym a ∙ c.in-Some-2.is) in
    rw c.in_ok-push.ensures.ok (reads_more _ _ _ _ _ _ _ c.loop-line.invariant c.in-Some.ensures some)

pub returns-then-len-eq0 : goal.returns-then-len-eq0
returns-then-len-eq0 c =
    let none : length c.loop-line.operations ≡ 0 = omega arith in
    reads_none _ _ _ _ c.loop-line.invariant c.in_default.ensures.0 none

pub returns : goal.returns
returns c =
    let some : 0 < length c.loop-line.operations = omega arith in
    reads_end _ _ _ _ c.loop-line.invariant c.in_default.ensures.0 some
