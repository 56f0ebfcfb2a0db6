-- Expressions of two operands.
use Rattle.std.proofs.Common.{◌≡◌, Bool, true, false, not, refl, sym, ◌∙◌, ap}
use Rattle.sc_tree.specs.declared.op.BinaryOp.{BinaryOp}
use Rattle.sc_world.specs.Eval.{is_logical}
use Rattle.expr_fits.specs.Around.{source_of}
use Rattle.tr_flow.proofs.Bare as bare
use Rattle.tr_flow.proofs.taken.+is_bare.Goals as goal

plain : (o : BinaryOp) (r : Bool) → r ≡ false → r ≡ is_logical o → not (is_logical o) ≡ true
plain o r h is = ap not (sym is ∙ h)

pub returns-then-is_bare : goal.returns-then-is_bare
returns-then-is_bare t c =
    let structs = (source_of c.args.around.now).structs in
    let both = bare.comma structs c.args.e.now c.in-Comma.a c.in-Comma.b c.get.result.now c.get-then-is_bare.result.now c.get.ensures
    c.get-then-is_bare.ensures c.in-Comma.is in
    bare.second _ _ _ c.is_bare.result c.is_bare-then-is_bare.result both c.if-is_bare.true c.is_bare.ensures c.is_bare-then-is_bare.ensures

pub returns-else-is_bare : goal.returns-else-is_bare
returns-else-is_bare t c =
    let structs = (source_of c.args.around.now).structs in
    let both = bare.comma structs c.args.e.now c.in-Comma.a c.in-Comma.b c.get.result.now c.in-Comma.b c.get.ensures refl c.in-Comma.is in
    bare.first _ _ _ c.is_bare.result both c.if-is_bare.false c.is_bare.ensures

pub returns-then-is_bare-2 : goal.returns-then-is_bare-2
returns-then-is_bare-2 t c =
    let structs = (source_of c.args.around.now).structs in
    let both = bare.assign structs c.args.e.now c.in-Assign.a c.in-Assign.b c.get-in-Assign.result.now c.get-then-is_bare-2.result.now
    c.get-in-Assign.ensures c.get-then-is_bare-2.ensures c.in-Assign.field-0 c.in-Assign.field-1 c.in-Assign.is in
    bare.second _ _ _ c.is_bare-in-Assign.result c.is_bare-then-is_bare-2.result both c.if-is_bare-2.true c.is_bare-in-Assign.ensures
    c.is_bare-then-is_bare-2.ensures

pub returns-else-is_bare-2 : goal.returns-else-is_bare-2
returns-else-is_bare-2 t c =
    let structs = (source_of c.args.around.now).structs in
    let both = bare.assign structs c.args.e.now c.in-Assign.a c.in-Assign.b c.get-in-Assign.result.now c.in-Assign.b c.get-in-Assign.ensures refl
    c.in-Assign.field-0 c.in-Assign.field-1 c.in-Assign.is in
    bare.first _ _ _ c.is_bare-in-Assign.result both c.if-is_bare-2.false c.is_bare-in-Assign.ensures

pub returns-then-is_bare-3 : goal.returns-then-is_bare-3
returns-then-is_bare-3 t c =
    let structs = (source_of c.args.around.now).structs in
    let both = bare.binary structs c.args.e.now c.in-Binary.a c.in-Binary.b c.get-then-not-is_logical.result.now c.get-then-is_bare-3.result.now
    c.get-then-not-is_logical.ensures c.get-then-is_bare-3.ensures c.in-Binary.op c.in-Binary.is (plain c.in-Binary.op _ c.if-not-is_logical.true
    c.is_logical.ensures) in
    bare.second _ _ _ c.is_bare-then-not-is_logical.result c.is_bare-then-is_bare-3.result both c.if-is_bare-3.true
    c.is_bare-then-not-is_logical.ensures c.is_bare-then-is_bare-3.ensures

pub returns-else-is_bare-3 : goal.returns-else-is_bare-3
returns-else-is_bare-3 t c =
    let structs = (source_of c.args.around.now).structs in
    let both = bare.binary structs c.args.e.now c.in-Binary.a c.in-Binary.b c.get-then-not-is_logical.result.now c.in-Binary.b
    c.get-then-not-is_logical.ensures refl c.in-Binary.op c.in-Binary.is (plain c.in-Binary.op _ c.if-not-is_logical.true c.is_logical.ensures) in
    bare.first _ _ _ c.is_bare-then-not-is_logical.result both c.if-is_bare-3.false c.is_bare-then-not-is_logical.ensures

pub returns-then-is_bare-4 : goal.returns-then-is_bare-4
returns-then-is_bare-4 t c =
    let structs = (source_of c.args.around.now).structs in
    let both = bare.index structs c.args.e.now c.in-Index.a c.in-Index.b c.get-in-Index.result.now c.get-then-is_bare-4.result.now
    c.get-in-Index.ensures c.get-then-is_bare-4.ensures c.in-Index.is in
    bare.second _ _ _ c.is_bare-in-Index.result c.is_bare-then-is_bare-4.result both c.if-is_bare-4.true c.is_bare-in-Index.ensures
    c.is_bare-then-is_bare-4.ensures

pub returns-else-is_bare-4 : goal.returns-else-is_bare-4
returns-else-is_bare-4 t c =
    let structs = (source_of c.args.around.now).structs in
    let both = bare.index structs c.args.e.now c.in-Index.a c.in-Index.b c.get-in-Index.result.now c.in-Index.b c.get-in-Index.ensures refl c.in-Index.is in
    bare.first _ _ _ c.is_bare-in-Index.result both c.if-is_bare-4.false c.is_bare-in-Index.ensures
