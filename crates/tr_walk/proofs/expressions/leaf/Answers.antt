-- What each arm of the walk over names, constants and temps promises.
use Rattle.std.proofs.Common.{rules, ◌≡◌, ℕ, inl, inr, sym, ◌∙◌, ap}
use Rattle.sc_typed.specs.Arith.{wrapped}
use Rattle.sc_typed.specs.declared.expr.TExpr.{out-TExpr}
use Rattle.sc_world.specs.Tree.{Number}
use Rattle.sc_world.specs.View.{type}
use Rattle.run_values.specs.Seen.{want_of}
use Rattle.expr_fits.specs.Around.{source_of}
use Rattle.tr_walk.proofs.Arms as arms
use Rattle.tr_walk.proofs.Seen as seen
use Rattle.tr_walk.proofs.expressions.leaf.Goals as goal

pub returns-in_ok-made-in-Param-clause-ok : goal.returns-in_ok-made-in-Param-clause-ok
returns-in_ok-made-in-Param-clause-ok c =
    let tree = seen.param (source_of c.args.around.now).structs c.args.e.now c.in-Param.n c.in-Param.is in
    rw tree (arms.walks_param c.args.around.now _ _ (want_of c.args.want) _ _ _ _ _ c.in_ok-made-in-Param.ensures.grown c.requires.ready c.in_ok-made-in-Param.ensures.ok)

pub returns-in_ok-made-in-Local-clause-ok : goal.returns-in_ok-made-in-Local-clause-ok
returns-in_ok-made-in-Local-clause-ok c =
    let tree = seen.local (source_of c.args.around.now).structs c.args.e.now c.in-Local.n c.in-Local.is in
    rw tree (arms.walks_local c.args.around.now _ _ (want_of c.args.want) _ _ _ _ _ c.in_ok-made-in-Local.ensures.grown c.requires.ready c.in_ok-made-in-Local.ensures.ok)

pub returns-in_ok-made-in-Global-clause-ok : goal.returns-in_ok-made-in-Global-clause-ok
returns-in_ok-made-in-Global-clause-ok c =
    let tree = seen.global (source_of c.args.around.now).structs c.args.e.now c.in-Global.n c.in-Global.is in
    rw tree (arms.walks_global c.args.around.now _ _ (want_of c.args.want) _ _ _ _ _ c.in_ok-made-in-Global.ensures.grown c.requires.ready c.in_ok-made-in-Global.ensures.ok)

pub returns-in-Function-clause-ok : goal.returns-in-Function-clause-ok
returns-in-Function-clause-ok c =
    let tree = seen.function (source_of c.args.around.now).structs c.args.e.now c.in-Function.name c.in-Function.field-1 c.in-Function.is in
    rw tree (arms.walks_function c.args.around.now _ _ (want_of c.args.want) _ _ _ _ _ _ c.requires.ready.same c.requires.ready (rw tree at c.requires.can) c.addressed-made.ensures)

pub returns-in-Str-clause-ok : goal.returns-in-Str-clause-ok
returns-in-Str-clause-ok c =
    let tree = seen.string (source_of c.args.around.now).structs c.args.e.now c.in-Str.field-0 c.in-Str.is in
    rw tree (arms.walks_string c.args.around.now _ _ (want_of c.args.want) _ _ _ _ _ c.requires.ready.same c.requires.ready (rw tree at c.requires.can) c.addressed-made-in-Str.ensures)

pub returns-in_ok-made-in-Char-clause-ok : goal.returns-in_ok-made-in-Char-clause-ok
returns-in_ok-made-in-Char-clause-ok c =
    let spelled : c.character.result ≡ wrapped 32 c.in-Char.c = search rules in
    let tree = seen.character (source_of c.args.around.now).structs c.args.e.now c.in-Char.c c.in-Char.is ∙ ap (λ (n : ℕ). Number n (type (out-TExpr c.args.e.now).ctype)) (sym spelled) in
    rw tree (arms.walks_number c.args.around.now _ (want_of c.args.want) _ _ _ _ _ c.requires.ready (rw tree at c.requires.can) c.in_ok-made-in-Char.ensures)

pub returns-in_ok-made-in-Temp-clause-ok : goal.returns-in_ok-made-in-Temp-clause-ok
returns-in_ok-made-in-Temp-clause-ok c =
    let tree = seen.temp (source_of c.args.around.now).structs c.args.e.now c.in-Temp.n c.in-Temp.is in
    rw tree (arms.walks_temp c.args.around.now _ (want_of c.args.want) _ _ _ _ _ c.requires.ready (rw tree at c.requires.can) c.in_ok-made-in-Temp.ensures)

pub returns-in_ok-made-in-SizeofExpr-clause-ok : goal.returns-in_ok-made-in-SizeofExpr-clause-ok
returns-in_ok-made-in-SizeofExpr-clause-ok c =
    elim c.in-SizeofExpr.is [
      | inl h ↦
          (let tree = seen.size (source_of c.args.around.now).structs c.args.e.now h.0 c.in-SizeofExpr.n h.1 in
          rw tree (arms.walks_size c.args.around.now _ (want_of c.args.want) _ _ _ _ _ _ c.requires.ready (rw tree at c.requires.can) c.in_ok-made-in-SizeofExpr.ensures))
      | inr h ↦
          elim h [
            | inl is ↦
                (let tree = seen.size_of (source_of c.args.around.now).structs c.args.e.now c.in-SizeofExpr.n is in
                rw tree (arms.walks_size_of c.args.around.now _ (want_of c.args.want) _ _ _ _ _ c.requires.ready (rw tree at c.requires.can) c.in_ok-made-in-SizeofExpr.ensures))
            | inr is ↦
                (let tree = seen.integer (source_of c.args.around.now).structs c.args.e.now c.in-SizeofExpr.n is in
                rw tree (arms.walks_number c.args.around.now _ (want_of c.args.want) _ _ _ _ _ c.requires.ready (rw tree at c.requires.can) c.in_ok-made-in-SizeofExpr.ensures))
          ]
    ]
