-- The values of the two halves, one list behind the other.
use Rattle.std.proofs.Common.{◌+◌, ◌*◌, ◌++◌, drop, refl, subst, ap, ◌∙◌, arith}
use Rattle.query.specs.Values.{ListsValues}
use Rattle.query.proofs.Counting.{lists_none, lists_split}
use Rattle.query.proofs.occurrences.+collected.Goals as goal

pub returns-in-None-clause-lists : goal.returns-in-None-clause-lists
returns-in-None-clause-lists g t c =
    lists_none _ (drop c.args.place c.args.bits.now) _ c.args.high _ c.new.ensures.items (rw c.in-None.is at c.requires.part.found)

pub returns-clause-lists : goal.returns-clause-lists
returns-clause-lists g t c =
    let rest = drop (c.args.place + 1) c.args.bits.now in
    let halves = c.in_ok-halves-in-Some-2.halves in
    let found = c.in_ok-halves-in-Some-2.ensures in
    let values = c.in_ok-values-in-Some-2.values.items in
    let others = c.in_ok-others-in-Some-2.others.items in
    let low =
    subst (λ clauses. ListsValues clauses rest halves.low.fixed.items (2 * c.args.high) values) found.clauses c.in_ok-values-in-Some-2.ensures.lists in
    let up =
    subst (λ clauses. ListsValues clauses rest halves.up.fixed.items (2 * c.args.high + 1) others)
    (c.collected.ensures.clauses ∙ found.clauses) c.in_ok-others-in-Some-2.ensures.lists in
    lists_split _ c.args.bits.now c.args.place _ _ c.args.part.fixed.items halves.low.fixed.items halves.up.fixed.items c.args.high values others _
    (omega (arith, c.requires.place, c.if-place-bits.false)) refl
    (rw c.as_slice.ensures.value at found.low_fixed) (rw c.as_slice.ensures.value at found.up_fixed)
    low up
    (c.in_ok-extend_from_slice-in-Some-2.ensures.items ∙ ap (λ ys. values ++ ys) c.as_slice-in-Some-2.ensures.value)
