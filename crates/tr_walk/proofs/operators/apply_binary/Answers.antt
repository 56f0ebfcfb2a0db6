-- What each operator with two operands asks of them, and promises behind them.
use Rattle.std.proofs.Common.{refl, sym, ◌∙◌}
use Rattle.sc_typed.specs.declared.expr.TExpr.{out-TExpr}
use Rattle.sc_world.specs.View.{type}
use Rattle.run_values.specs.Seen.{want_of}
use Rattle.expr_fits.specs.Around.{exp_of, layout_of, source_of}
use Rattle.tr_walk.proofs.Behind as behind
use Rattle.tr_walk.proofs.Seen as seen
use Rattle.tr_walk.proofs.operators.apply_binary.Goals as goal

pub returns-then-is_cell-clause-ok : goal.returns-then-is_cell-clause-ok
returns-then-is_cell-clause-ok c =
    let tree = seen.assign (source_of c.args.around.now).structs c.args.e.now c.in-Assign.field-0 c.in-Assign.field-1 c.in-Assign.field-2 c.in-Assign.field-3
    c.in-Assign.field-2 c.in-Assign.field-3 c.in-Assign.is refl refl in
    rw tree
    (behind.assigns c.args.around.now (want_of c.args.want) _ _ _ _ _ _ _ _ _ _ _ _ _ (sym c.is_cell.ensures ∙ c.if-is_cell.true) c.as_set-place.ensures
    c.in_ok-made-in-Assign.ensures.grown c.in_ok-made-in-Assign.ensures.ok)

pub returns-in-Assign-clause-ok : goal.returns-in-Assign-clause-ok
returns-in-Assign-clause-ok c =
    let tree = seen.assign (source_of c.args.around.now).structs c.args.e.now c.in-Assign.field-0 c.in-Assign.field-1 c.in-Assign.field-2 c.in-Assign.field-3
    c.in-Assign.field-2 c.in-Assign.field-3 c.in-Assign.is refl refl in
    rw tree
    (behind.copies c.args.around.now (want_of c.args.want) _ _ _ _ _ _ _ _ _ _ _ _ _ _ (sym c.is_cell.ensures ∙ c.if-is_cell.false) c.as_set-place.ensures
    c.as_set-from.ensures c.in_ok-made-in-Assign-2.ensures.grown c.in_ok-made-in-Assign-2.ensures.ok)

pub operation-requires-clause-fits : goal.operation-requires-clause-fits
operation-requires-clause-fits c =
    let tree = seen.binary (source_of c.args.around.now).structs c.args.e.now c.in-Binary.op c.in-Binary.a c.in-Binary.b c.get.result.now c.get-in-Binary.result.now c.in-Binary.is c.get.ensures c.get-in-Binary.ensures in
    behind.operator_fits (source_of c.args.around.now) (layout_of c.args.around.now) (want_of c.args.want) c.in-Binary.op (exp_of c.args.around.now c.get.result.now)
    (exp_of c.args.around.now c.get-in-Binary.result.now) (type (out-TExpr c.args.e.now).ctype) _ _ c.type_of-u.ensures c.type_of-w.ensures (rw tree at c.requires.applies)

pub returns-in-Binary-clause-ok : goal.returns-in-Binary-clause-ok
returns-in-Binary-clause-ok c =
    let tree = seen.binary (source_of c.args.around.now).structs c.args.e.now c.in-Binary.op c.in-Binary.a c.in-Binary.b c.get.result.now c.get-in-Binary.result.now c.in-Binary.is c.get.ensures c.get-in-Binary.ensures in
    rw tree
    (behind.operates c.args.around.now (want_of c.args.want) _ _ _ _ _ _ _ _ _ _ _ _ c.type_of-u.ensures c.in_ok-made-in-Binary.ensures.grown c.in_ok-made-in-Binary.ensures.ready
    c.in_ok-made-in-Binary.ensures.locations c.in_ok-made-in-Binary.ensures.ok)

pub as_set-whole-requires : goal.as_set-whole-requires
as_set-whole-requires c =
    let tree = seen.index (source_of c.args.around.now).structs c.args.e.now c.in-Index.a c.in-Index.b c.in-Index.a c.in-Index.b c.in-Index.is refl refl in
    behind.index_set (source_of c.args.around.now) (layout_of c.args.around.now) (want_of c.args.want) (exp_of c.args.around.now c.in-Index.a)
    (exp_of c.args.around.now c.in-Index.b) (type (out-TExpr c.args.e.now).ctype) _ (rw tree at c.requires.applies) (rw tree at c.requires.left)

pub returns-then-is_array-clause-ok : goal.returns-then-is_array-clause-ok
returns-then-is_array-clause-ok c =
    let tree = seen.index (source_of c.args.around.now).structs c.args.e.now c.in-Index.a c.in-Index.b c.get-in-Index-2.result.now c.in-Index.b c.in-Index.is c.get-in-Index-2.ensures refl in
    rw tree
    (behind.element c.args.around.now (want_of c.args.want) _ _ _ _ _ _ _ _ _ _ _ _ _ c.type_of-in-Index.ensures (sym c.is_array.ensures ∙ c.if-is_array.true) c.as_set-whole.ensures
    c.in_ok-index-in-Index.ensures.is c.in_ok-made-in-Index.ensures.grown c.in_ok-made-in-Index.ensures.ready c.in_ok-made-in-Index.ensures.locations
    c.in_ok-made-in-Index.ensures.ok)

pub returns-in-Index-clause-ok : goal.returns-in-Index-clause-ok
returns-in-Index-clause-ok c =
    let tree = seen.index (source_of c.args.around.now).structs c.args.e.now c.in-Index.a c.in-Index.b c.get-in-Index-2.result.now c.in-Index.b c.in-Index.is c.get-in-Index-2.ensures refl in
    rw tree
    (behind.pointed c.args.around.now (want_of c.args.want) _ _ _ _ _ _ _ _ _ _ _ _ _ c.type_of-in-Index.ensures (sym c.is_array.ensures ∙ c.if-is_array.false) c.as_set-whole.ensures
    c.in_ok-index-in-Index.ensures.is c.in_ok-made-in-Index-2.ensures.grown c.in_ok-made-in-Index-2.ensures.ready c.in_ok-made-in-Index-2.ensures.locations
    c.in_ok-made-in-Index-2.ensures.ok)
