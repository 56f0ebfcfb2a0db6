-- What each operator with one operand promises behind it.
use Rattle.std.proofs.Common.{◌≡◌, Bool, true, inl, inr, refl, sym, ◌∙◌, ap, subst}
use Rattle.gate_places.specs.Places.{IsFirstElement}
use Rattle.sc_base.specs.declared.pos.NameId.{NameId}
use Rattle.sc_tree.specs.declared.op.UnaryOp.{UnaryOp}
use Rattle.sc_typed.specs.declared.expr.TExpr.{out-TExpr}
use Rattle.sc_world.specs.Tree.{Unary, Field}
use Rattle.sc_world.specs.Layout.{Layout}
use Rattle.sc_world.specs.View.{type, member_name}
use Rattle.run_values.specs.Seen.{want_of}
use Rattle.expr_fits.specs.Around.{exp_of, layout_of, source_of}
use Rattle.tr_walk.specs.Walks.{takes_value}
use Rattle.tr_walk.proofs.Behind as behind
use Rattle.tr_walk.proofs.Seen as seen
use Rattle.tr_walk.proofs.operators.apply_unary.Goals as goal

pub returns-in-Address-clause-ok : goal.returns-in-Address-clause-ok
returns-in-Address-clause-ok c =
    let tree = seen.unary (source_of c.args.around.now).structs c.args.e.now c.in-Unary.op c.in-Unary.a c.in-Unary.a c.in-Unary.is refl ∙ ap (λ (o : UnaryOp). Unary o (exp_of c.args.around.now c.in-Unary.a) (type (out-TExpr c.args.e.now).ctype)) c.in-Address.is in
    rw tree (behind.address c.args.around.now (want_of c.args.want) _ _ _ _ _ _)

pub returns-in-Deref-clause-ok : goal.returns-in-Deref-clause-ok
returns-in-Deref-clause-ok c =
    let tree = seen.unary (source_of c.args.around.now).structs c.args.e.now c.in-Unary.op c.in-Unary.a c.in-Unary.a c.in-Unary.is refl ∙ ap (λ (o : UnaryOp). Unary o (exp_of c.args.around.now c.in-Unary.a) (type (out-TExpr c.args.e.now).ctype)) c.in-Deref.is in
    rw tree
    (behind.deref c.args.around.now (want_of c.args.want) _ _ _ _ _ _ _ _ _ _ c.as_set-pointer.ensures c.in_ok-made-in-Deref.ensures.grown c.in_ok-made-in-Deref.ensures.ready
    c.in_ok-made-in-Deref.ensures.locations c.in_ok-made-in-Deref.ensures.ok)

pub returns-in-Unary-clause-ok : goal.returns-in-Unary-clause-ok
returns-in-Unary-clause-ok c =
    let takes : takes_value c.in-Unary.op ≡ true =
    elim c.in-Not.is [ inl e ↦ ap takes_value e | inr f ↦ elim f [ inl e ↦ ap takes_value e | inr g ↦ elim g [ inl e ↦ ap takes_value e | inr e ↦ ap takes_value e ] ] ] in
    let tree = seen.unary (source_of c.args.around.now).structs c.args.e.now c.in-Unary.op c.in-Unary.a c.in-Unary.a c.in-Unary.is refl in
    rw tree (behind.signed c.args.around.now (want_of c.args.want) _ _ _ _ _ _ _ _ _ takes c.in_ok-made-in-Not.ensures.grown c.in_ok-made-in-Not.ensures.ok)

pub returns-in-PreInc-clause-ok : goal.returns-in-PreInc-clause-ok
returns-in-PreInc-clause-ok c =
    let tree = seen.before (source_of c.args.around.now).structs c.args.e.now c.in-PreInc.step c.in-PreInc.field-1 c.in-PreInc.field-1 c.in-PreInc.is refl in
    rw tree (behind.before c.args.around.now (want_of c.args.want) _ _ _ _ _ _ _ _ _ _ _ _ c.as_set-place.ensures c.in_ok-made-in-PreInc.ensures.ok)

pub returns-in-PostInc-clause-ok : goal.returns-in-PostInc-clause-ok
returns-in-PostInc-clause-ok c =
    let tree = seen.after (source_of c.args.around.now).structs c.args.e.now c.in-PostInc.step c.in-PostInc.field-1 c.in-PostInc.field-1 c.in-PostInc.is refl in
    rw tree (behind.after c.args.around.now (want_of c.args.want) _ _ _ _ _ _ _ _ _ _ _ _ c.as_set-place-in-PostInc.ensures c.in_ok-made-in-PostInc.ensures.ok)

pub as_set-object-requires : goal.as_set-object-requires
as_set-object-requires c =
    let tree = seen.field (source_of c.args.around.now).structs c.args.e.now c.in-Field.a c.in-Field.a c.in-Field.number c.in-Field.at c.in-Field.arrow c.in-Field.is refl in
    behind.member_set (source_of c.args.around.now) (layout_of c.args.around.now) (want_of c.args.want) (exp_of c.args.around.now c.in-Field.a)
    (member_name (source_of c.args.around.now).structs c.in-Field.number c.in-Field.at) c.in-Field.arrow (type (out-TExpr c.args.e.now).ctype) c.args.x (rw tree at c.requires.applies) (rw tree at c.requires.kind)

pub returns-then-arrow-clause-ok : goal.returns-then-arrow-clause-ok
returns-then-arrow-clause-ok c =
    let x = exp_of c.args.around.now c.get-in-Field.result.now in
    let tree = seen.field (source_of c.args.around.now).structs c.args.e.now c.in-Field.a c.get-in-Field.result.now c.in-Field.number c.in-Field.at c.in-Field.arrow c.in-Field.is c.get-in-Field.ensures
    ∙ ap (λ (n : NameId). Field x n c.in-Field.arrow (type (out-TExpr c.args.e.now).ctype)) (sym c.member_name.ensures) ∙ ap (λ (b : Bool). Field x c.member_name.result b (type (out-TExpr c.args.e.now).ctype)) c.if-arrow.true in
    rw tree
    (behind.arrow c.args.around.now (want_of c.args.want) _ _ _ _ _ _ _ _ _ _ _ _ c.type_of.ensures c.as_set-object.ensures c.in_ok-made-in-Field.ensures.grown c.in_ok-made-in-Field.ensures.ready
    c.in_ok-made-in-Field.ensures.locations c.in_ok-made-in-Field.ensures.ok)

pub returns-in-Field-clause-ok : goal.returns-in-Field-clause-ok
returns-in-Field-clause-ok c =
    let x = exp_of c.args.around.now c.get-in-Field.result.now in
    let tree = seen.field (source_of c.args.around.now).structs c.args.e.now c.in-Field.a c.get-in-Field.result.now c.in-Field.number c.in-Field.at c.in-Field.arrow c.in-Field.is c.get-in-Field.ensures
    ∙ ap (λ (n : NameId). Field x n c.in-Field.arrow (type (out-TExpr c.args.e.now).ctype)) (sym c.member_name.ensures) ∙ ap (λ (b : Bool). Field x c.member_name.result b (type (out-TExpr c.args.e.now).ctype)) c.if-arrow.false in
    rw tree (behind.dot c.args.around.now (want_of c.args.want) _ _ _ _ _ _ _ _ _ _ c.as_set-object.ensures c.in_ok-made-in-Field-2.ensures.grown c.in_ok-made-in-Field-2.ensures.ok)

pub returns-then-is_array-clause-ok : goal.returns-then-is_array-clause-ok
returns-then-is_array-clause-ok c =
    elim c.in-Cast.is [
      | inl is ↦
          (let tree = seen.cast (source_of c.args.around.now).structs c.args.e.now c.in-Cast.a c.get-in-Cast.result.now is c.get-in-Cast.ensures in
          rw tree
          (behind.cast_array c.args.around.now (want_of c.args.want) _ _ _ _ _ _ _ _ _ _ c.type_of-from-in-Cast.ensures (sym c.is_array.ensures ∙ c.if-is_array.true) c.as_set-array.ensures
          c.in_ok-first-in-Cast.ensures.grown
          (subst (λ (p : Layout). IsFirstElement c.first_element.new.net p c.as_set-array.result c.in_ok-first-in-Cast.first) c.requires.ready.same c.in_ok-first-in-Cast.ensures.ok)))
      | inr is ↦
          (let tree = seen.convert (source_of c.args.around.now).structs c.args.e.now c.in-Cast.a c.get-in-Cast.result.now is c.get-in-Cast.ensures in
          rw tree
          (behind.convert_array c.args.around.now (want_of c.args.want) _ _ _ _ _ _ _ _ _ _ c.type_of-from-in-Cast.ensures (sym c.is_array.ensures ∙ c.if-is_array.true) c.as_set-array.ensures
          c.in_ok-first-in-Cast.ensures.grown
          (subst (λ (p : Layout). IsFirstElement c.first_element.new.net p c.as_set-array.result c.in_ok-first-in-Cast.first) c.requires.ready.same c.in_ok-first-in-Cast.ensures.ok)))
    ]

pub returns-in-Cast-clause-ok : goal.returns-in-Cast-clause-ok
returns-in-Cast-clause-ok c =
    elim c.in-Cast.is [
      | inl is ↦
          (let tree = seen.cast (source_of c.args.around.now).structs c.args.e.now c.in-Cast.a c.get-in-Cast.result.now is c.get-in-Cast.ensures in
          rw tree
          (behind.cast_value c.args.around.now (want_of c.args.want) _ _ _ _ _ _ _ _ _ c.type_of-from-in-Cast.ensures (sym c.is_array.ensures ∙ c.if-is_array.false) c.in_ok-made-in-Cast.ensures.grown
          c.in_ok-made-in-Cast.ensures.ok))
      | inr is ↦
          (let tree = seen.convert (source_of c.args.around.now).structs c.args.e.now c.in-Cast.a c.get-in-Cast.result.now is c.get-in-Cast.ensures in
          rw tree
          (behind.convert_value c.args.around.now (want_of c.args.want) _ _ _ _ _ _ _ _ _ c.type_of-from-in-Cast.ensures (sym c.is_array.ensures ∙ c.if-is_array.false) c.in_ok-made-in-Cast.ensures.grown
          c.in_ok-made-in-Cast.ensures.ok))
    ]
