-- Which tree of runs an assignment is; x' and y' are its operands once more, out of their boxes.
use Rattle.std.proofs.Common.{◌≡◌, List, sym, ap, ◌∙◌}
use Rattle.sc_tree.specs.declared.op.AssignOp.{AssignOp}
use Rattle.sc_tree.specs.declared.ctype.CType.{CType}
use Rattle.sc_tree.specs.declared.expr.Place.{Place}
use Rattle.sc_typed.specs.declared.expr.TExpr.{TExpr, out-TExpr}
use Rattle.sc_typed.specs.declared.expr.What.{What, What-F}
use Rattle.sc_typed.specs.declared.expr.What.TheVariants as what
use Rattle.sc_typed.specs.declared.expr.What.TheFolds as folds
use Rattle.sc_world.specs.Tree.{Ty, Exp, Assign}
use Rattle.sc_world.specs.Source.{Struct}
use Rattle.sc_world.specs.View.{type, operator, exp, exp_step, placed}

pub assign : (structs : List Struct) (e : TExpr) (o : AssignOp) (works : CType) (x y x' y' : TExpr) → (out-TExpr e).what ≡ what.Assign o works x y → x' ≡ x → y' ≡ y
    → exp structs e ≡ Assign (operator o) (type works) (exp structs x') (exp structs y') (type (out-TExpr e).ctype)
assign structs e o works x y x' y' is same_x same_y =
    folds.fold_out-TExpr (Ty → Place → Exp) Exp (exp_step structs) placed e
    ∙ ap (λ (v : What). folds.fold-What (Ty → Place → Exp) Exp (exp_step structs) placed v (type (out-TExpr e).ctype) (out-TExpr e).place)
    (is ∙ sym (what.rolls-Assign o works x y))
    ∙ ap (λ f. f (type (out-TExpr e).ctype) (out-TExpr e).place)
    (folds.fold-roll-What (Ty → Place → Exp) Exp (exp_step structs) placed (What-F.Assign o works x y))
    ∙ ap (λ z. Assign (operator o) (type works) (exp structs z) (exp structs y) (type (out-TExpr e).ctype)) (sym same_x)
    ∙ ap (λ z. Assign (operator o) (type works) (exp structs x') (exp structs z) (type (out-TExpr e).ctype)) (sym same_y)
