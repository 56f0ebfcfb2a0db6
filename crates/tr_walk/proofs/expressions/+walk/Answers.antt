-- What each arm of the walk promises.
use Rattle.std.proofs.Common.{◌≡◌, false, inl, inr, refl, sym, ◌∙◌, ap}
use Rattle.sc_typed.specs.declared.expr.TExpr.{out-TExpr}
use Rattle.sc_world.specs.Eval.{Value}
use Rattle.sc_world.specs.Tree.{type_of}
use Rattle.sc_world.specs.View.{type, operator}
use Rattle.run_values.specs.Seen.{want_of}
use Rattle.expr_fits.specs.Around.{exp_of, source_of}
use Rattle.expr_fits.specs.Operands.{arity_of, has_operands, first_operand, first_wanted, second_operand, second_wanted}
use Rattle.tr_walk.specs.Operands.{updates}
use Rattle.tr_walk.proofs.Joined as joined
use Rattle.tr_walk.proofs.Operands as operands
use Rattle.tr_walk.proofs.Own as own
use Rattle.tr_walk.proofs.Seen as seen
use Rattle.tr_walk.proofs.expressions.+walk.Goals as goal

pub returns-in_ok-made-in-Comma-clause-ok : goal.returns-in_ok-made-in-Comma-clause-ok
returns-in_ok-made-in-Comma-clause-ok t c =
    let tree = seen.comma (source_of c.args.around.now).structs c.args.e.now c.in-Comma.a c.in-Comma.b c.comma_left-left.result.now c.comma_right-right.result.now c.in-Comma.is c.comma_left-left.ensures.same c.comma_right-right.ensures.same in
    rw tree (joined.by_comma c.args.around.now (want_of c.args.want) _ _ _ _ _ _ _ _ _ _ _ _ _ (rw tree at c.requires.can) c.in_ok-made-in-Comma.ensures.grown c.in_ok-walk-in-Comma.ensures.ok c.in_ok-made-in-Comma.ensures.ok)

pub returns-in_ok-made-in-None-clause-ok : goal.returns-in_ok-made-in-None-clause-ok
returns-in_ok-made-in-None-clause-ok t c =
    let tree = seen.assign (source_of c.args.around.now).structs c.args.e.now c.in-Assign.op c.in-Assign.works c.in-Assign.a c.in-Assign.b c.in-Assign.a c.in-Assign.b c.in-Assign.is refl refl in
    own.both_own c.args.around.now (want_of c.args.want) (exp_of c.args.around.now c.args.e.now) _ _ _ _ _ _ _ _ _ _ _ _ _ (own.sets_is (operator c.in-Assign.op) (type c.in-Assign.works) (exp_of c.args.around.now c.in-Assign.a) (exp_of c.args.around.now c.in-Assign.b) (type (out-TExpr c.args.e.now).ctype) (exp_of c.args.around.now c.args.e.now) tree (sym c.operator.ensures ∙ c.in-None.is)) c.requires.can c.in_ok-y-in-None.ensures.grown
    (own.walked_is c.args.around.now (want_of c.args.want) _ _ _ _ _ _ _ _ _ _ c.first-left.ensures.wanted c.first-left.ensures.operand c.in_ok-x-in-Assign.ensures.ok)
    (own.walked_is c.args.around.now (want_of c.args.want) _ _ _ _ _ _ _ _ _ _ c.second-right.ensures.wanted c.second-right.ensures.operand c.in_ok-y-in-None.ensures.ok)
    c.in_ok-made-in-None.ensures.ok

pub apply_binary-requires-clause-applies : goal.apply_binary-requires-clause-applies
apply_binary-requires-clause-applies t c =
    let tree = seen.assign (source_of c.args.around.now).structs c.args.e.now c.in-Assign.op c.in-Assign.works c.in-Assign.a c.in-Assign.b c.in-Assign.a c.in-Assign.b c.in-Assign.is refl refl in
    own.own_applies c.args.around.now (want_of c.args.want) (exp_of c.args.around.now c.args.e.now) (ap (λ z. has_operands (arity_of z)) tree) (own.sets_is (operator c.in-Assign.op) (type c.in-Assign.works) (exp_of c.args.around.now c.in-Assign.a) (exp_of c.args.around.now c.in-Assign.b) (type (out-TExpr c.args.e.now).ctype) (exp_of c.args.around.now c.args.e.now) tree (sym c.operator.ensures ∙ c.in-None.is)) c.requires.can

pub apply_binary-requires-clause-left : goal.apply_binary-requires-clause-left
apply_binary-requires-clause-left t c =
    own.kind_is c.args.around.now (want_of c.args.want) _ _ _ _ _ c.first-left.ensures.wanted c.first-left.ensures.operand c.in_ok-x-in-Assign.ensures.ok.kind

pub apply_binary-requires-clause-right : goal.apply_binary-requires-clause-right
apply_binary-requires-clause-right t c =
    own.kind_is c.args.around.now (want_of c.args.want) _ _ _ _ _ c.second-right.ensures.wanted c.second-right.ensures.operand c.in_ok-y-in-None.ensures.ok.kind

pub as_set-place-requires : goal.as_set-place-requires
as_set-place-requires t c =
    let tree = seen.assign (source_of c.args.around.now).structs c.args.e.now c.in-Assign.op c.in-Assign.works c.in-Assign.a c.in-Assign.b c.in-Assign.a c.in-Assign.b c.in-Assign.is refl refl in
    operands.place_kind c.args.around.now (want_of c.args.want) _ _ _ _ _ _ _ _ (c.first-left.ensures.wanted ∙ ap first_wanted tree) c.in_ok-x-in-Assign.ensures.ok

pub combined-requires-clause-fits : goal.combined-requires-clause-fits
combined-requires-clause-fits t c =
    let tree = seen.assign (source_of c.args.around.now).structs c.args.e.now c.in-Assign.op c.in-Assign.works c.in-Assign.a c.in-Assign.b c.in-Assign.a c.in-Assign.b c.in-Assign.is refl refl in
    operands.combine_types c.args.around.now (want_of c.args.want) c.in-Assign.op c.operator.result c.in-Some.by (type c.in-Assign.works) (exp_of c.args.around.now c.in-Assign.a) (exp_of c.args.around.now c.in-Assign.b) (type (out-TExpr c.args.e.now).ctype) (type c.type_of-u.result.now) c.operator.ensures c.in-Some.is
    (c.type_of-u.ensures ∙ ap type_of (c.second-right.ensures.operand ∙ ap second_operand tree)) (rw tree at c.requires.can)

pub combined-requires-clause-left : goal.combined-requires-clause-left
combined-requires-clause-left t c =
    let tree = seen.assign (source_of c.args.around.now).structs c.args.e.now c.in-Assign.op c.in-Assign.works c.in-Assign.a c.in-Assign.b c.in-Assign.a c.in-Assign.b c.in-Assign.is refl refl in
    operands.combined_old c.args.around.now (want_of c.args.want) (operator c.in-Assign.op) c.operator.result c.in-Some.by (type c.in-Assign.works) (exp_of c.args.around.now c.in-Assign.a) (exp_of c.args.around.now c.in-Assign.b) (type (out-TExpr c.args.e.now).ctype) c.wanted.new.net c.walk-in-Assign.new.stored.locations.items c.as_set-place.result c.in_ok-old-in-Some.old
    c.operator.ensures c.in-Some.is (rw tree at c.requires.can) c.in_ok-old-in-Some.ensures.ok

pub combined-requires-clause-right : goal.combined-requires-clause-right
combined-requires-clause-right t c =
    let tree = seen.assign (source_of c.args.around.now).structs c.args.e.now c.in-Assign.op c.in-Assign.works c.in-Assign.a c.in-Assign.b c.in-Assign.a c.in-Assign.b c.in-Assign.is refl refl in
    let can = rw tree at c.requires.can in
    operands.combined_kind c.args.around.now (want_of c.args.want) (operator c.in-Assign.op) c.operator.result c.in-Some.by (type c.in-Assign.works) (exp_of c.args.around.now c.in-Assign.a) (exp_of c.args.around.now c.in-Assign.b) (type (out-TExpr c.args.e.now).ctype) (type c.type_of-u.result.now) c.in_ok-y-in-Some.y c.operator.ensures c.in-Some.is
    (c.type_of-u.ensures ∙ ap type_of (c.second-right.ensures.operand ∙ ap second_operand tree)) can
    (own.kind_is c.args.around.now (want_of c.args.want) (want_of c.second-right.result.want) Value (exp_of c.args.around.now c.second-right.result.e.now) (exp_of c.args.around.now c.in-Assign.b) c.in_ok-y-in-Some.y
    (c.second-right.ensures.wanted ∙ ap second_wanted tree ∙ operands.value_wanted c.args.around.now (want_of c.args.want) (operator c.in-Assign.op) c.operator.result c.in-Some.by (type c.in-Assign.works) (exp_of c.args.around.now c.in-Assign.a) (exp_of c.args.around.now c.in-Assign.b) (type (out-TExpr c.args.e.now).ctype) c.operator.ensures c.in-Some.is can) (c.second-right.ensures.operand ∙ ap second_operand tree) c.in_ok-y-in-Some.ensures.ok.kind)

pub returns-in_ok-made-in-Some-clause-ok : goal.returns-in_ok-made-in-Some-clause-ok
returns-in_ok-made-in-Some-clause-ok t c =
    let tree = seen.assign (source_of c.args.around.now).structs c.args.e.now c.in-Assign.op c.in-Assign.works c.in-Assign.a c.in-Assign.b c.in-Assign.a c.in-Assign.b c.in-Assign.is refl refl in
    let can = rw tree at c.requires.can in
    rw tree
    (joined.by_combined c.args.around.now (want_of c.args.want) _ _ _ _ _ (operator c.in-Assign.op) c.operator.result c.in-Some.by (type c.in-Assign.works) (exp_of c.args.around.now c.in-Assign.a) (exp_of c.args.around.now c.in-Assign.b) (type (out-TExpr c.args.e.now).ctype) _ _ _ _ _ _ _ _ _ _ _ _ _ _ c.operator.ensures c.in-Some.is c.as_set-place.ensures can c.in_ok-old-in-Some.ensures.grown c.in_ok-y-in-Some.ensures.grown
    c.in_ok-sum-in-Some.ensures.grown c.in_ok-made-in-Some.ensures.grown c.in_ok-sum-in-Some.ensures.ready c.in_ok-sum-in-Some.ensures.locations
    (own.walked_is c.args.around.now (want_of c.args.want) _ _ _ _ _ _ _ _ _ _ (c.first-left.ensures.wanted ∙ ap first_wanted tree) (c.first-left.ensures.operand ∙ ap first_operand tree) c.in_ok-x-in-Assign.ensures.ok)
    c.in_ok-old-in-Some.ensures.ok
    (own.walked_is c.args.around.now (want_of c.args.want) _ _ _ _ _ _ _ _ _ _ (c.second-right.ensures.wanted ∙ ap second_wanted tree ∙ operands.value_wanted c.args.around.now (want_of c.args.want) (operator c.in-Assign.op) c.operator.result c.in-Some.by (type c.in-Assign.works) (exp_of c.args.around.now c.in-Assign.a) (exp_of c.args.around.now c.in-Assign.b) (type (out-TExpr c.args.e.now).ctype) c.operator.ensures c.in-Some.is can) (c.second-right.ensures.operand ∙ ap second_operand tree) c.in_ok-y-in-Some.ensures.ok)
    c.in_ok-sum-in-Some.ensures.ok c.in_ok-made-in-Some.ensures.ok)

pub returns-in_ok-made-in-Binary-clause-ok : goal.returns-in_ok-made-in-Binary-clause-ok
returns-in_ok-made-in-Binary-clause-ok t c =
    let plain : updates (exp_of c.args.around.now c.args.e.now) ≡ false =
    elim c.in-Binary.is [
      | inl h ↦ ap updates (seen.binary (source_of c.args.around.now).structs c.args.e.now h.0 c.in-Binary.a c.in-Binary.b c.in-Binary.a c.in-Binary.b h.1 refl refl)
      | inr h ↦ ap updates (seen.index (source_of c.args.around.now).structs c.args.e.now c.in-Binary.a c.in-Binary.b c.in-Binary.a c.in-Binary.b h refl refl)
    ] in
    own.both_own c.args.around.now (want_of c.args.want) (exp_of c.args.around.now c.args.e.now) _ _ _ _ _ _ _ _ _ _ _ _ _ plain c.requires.can c.in_ok-y-in-Binary.ensures.grown
    (own.walked_is c.args.around.now (want_of c.args.want) _ _ _ _ _ _ _ _ _ _ c.first-left-in-Binary.ensures.wanted c.first-left-in-Binary.ensures.operand c.in_ok-x-in-Binary.ensures.ok)
    (own.walked_is c.args.around.now (want_of c.args.want) _ _ _ _ _ _ _ _ _ _ c.second-right-in-Binary.ensures.wanted c.second-right-in-Binary.ensures.operand c.in_ok-y-in-Binary.ensures.ok)
    c.in_ok-made-in-Binary.ensures.ok

pub returns-in_ok-made-in-Cast-clause-ok : goal.returns-in_ok-made-in-Cast-clause-ok
returns-in_ok-made-in-Cast-clause-ok t c =
    let plain : updates (exp_of c.args.around.now c.args.e.now) ≡ false =
    elim c.in-Cast.is [
      | inl h ↦ ap updates (seen.cast (source_of c.args.around.now).structs c.args.e.now c.in-Cast.a c.in-Cast.a h refl)
      | inr i ↦ elim i [
        | inl h ↦ ap updates (seen.convert (source_of c.args.around.now).structs c.args.e.now c.in-Cast.a c.in-Cast.a h refl)
        | inr i ↦ elim i [
          | inl h ↦ ap updates (seen.unary (source_of c.args.around.now).structs c.args.e.now h.0 c.in-Cast.a c.in-Cast.a h.1 refl)
          | inr i ↦ elim i [
            | inl h ↦ ap updates (seen.before (source_of c.args.around.now).structs c.args.e.now h.0 c.in-Cast.a c.in-Cast.a h.1 refl)
            | inr i ↦ elim i [
              | inl h ↦ ap updates (seen.after (source_of c.args.around.now).structs c.args.e.now h.0 c.in-Cast.a c.in-Cast.a h.1 refl)
              | inr h ↦ ap updates (seen.field (source_of c.args.around.now).structs c.args.e.now c.in-Cast.a c.in-Cast.a h.0 h.1 h.2 h.3 refl)
            ]
          ]
        ]
      ]
    ] in
    own.one_own c.args.around.now (want_of c.args.want) (exp_of c.args.around.now c.args.e.now) _ _ _ _ _ _ _ _ _ _ plain c.requires.can
    (own.walked_is c.args.around.now (want_of c.args.want) _ _ _ _ _ _ _ _ _ _ c.first-operand.ensures.wanted c.first-operand.ensures.operand c.in_ok-x-in-Cast.ensures.ok)
    c.in_ok-made-in-Cast.ensures.ok
