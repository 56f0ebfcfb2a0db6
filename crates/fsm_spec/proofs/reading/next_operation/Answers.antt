-- The four cases of the operation of a line.
use Rattle.std.proofs.Common.{◌≡◌, true, false, arith, Some, None}
use Rattle.std.specs.Prelude.{bytes_eq}
use Rattle.std.proofs.lemmas.Bool.Decides.{nat_tests}
use Rattle.std.specs.List.{list_any}
use Rattle.fsm_spec.specs.Reading.{operation_at}
use Rattle.fsm_spec.proofs.ReadingProofs.{next_full, next_none, next_twice, next_new}
use Rattle.fsm_spec.proofs.reading.next_operation.Goals as goal

pub returns-then-operations-ge-MAX_OPERATIONS : goal.returns-then-operations-ge-MAX_OPERATIONS
returns-then-operations-ge-MAX_OPERATIONS c = next_full _ _ _ (omega arith)

pub returns-in_default : goal.returns-in_default
returns-in_default c =
    let none : operation_at c.args.states.now c.args.line.now ≡ None = first_of (cc, grind (arith, nat_tests)) in
    next_none _ _ _ none

pub returns-then-has_function : goal.returns-then-has_function
returns-then-has_function c =
    let there : list_any (λ o. bytes_eq o.function c.in-Some.operation.function) c.args.operations.now ≡ true = first_of (cc, grind (arith, nat_tests)) in
    let some : operation_at c.args.states.now c.args.line.now ≡ Some c.in-Some.operation = first_of (cc, grind (arith, nat_tests)) in
    next_twice _ _ _ c.in-Some.operation some there

pub returns : goal.returns
returns c =
    let new : list_any (λ o. bytes_eq o.function c.in-Some.operation.function) c.args.operations.now ≡ false = first_of (cc, grind (arith, nat_tests)) in
    let some : operation_at c.args.states.now c.args.line.now ≡ Some c.in-Some.operation = first_of (cc, grind (arith, nat_tests)) in
    next_new _ _ _ c.in-Some.operation (omega arith) some new
