-- Loops as the definitions match on them.
use Rattle.std.proofs.Common.{◌≡◌, Option, List, sym, ap, ◌∙◌}
use Rattle.sc_base.specs.declared.pos.Pos.{Pos}
use Rattle.sc_typed.specs.declared.expr.TExpr.{TExpr}
use Rattle.sc_typed.specs.declared.stmt.TForStart.{TForStart}
use Rattle.sc_typed.specs.declared.stmt.TStmt.{TStmt, TStmt-F}
use Rattle.sc_typed.specs.declared.stmt.TStmt.TheFolds.{fold-roll-TStmt}
use Rattle.sc_typed.specs.declared.stmt.TStmt.TheVariants as variant
use Rattle.sc_world.specs.Source.{Struct}
use Rattle.sc_world.specs.View.{exp, exp_if, start_of, stm, stm_step}
use Rattle.sc_world.specs.Tree.{Stm, While, Do, For}

pub stm_while : (structs : List Struct) (e : TExpr) (x : TStmt) (p : Pos)
    → stm structs (variant.While e x p) ≡ While p (exp structs e) (stm structs x)
stm_while structs e x p =
    ap (stm structs) (sym (variant.rolls-While e x p)) ∙ fold-roll-TStmt Stm (stm_step structs) (TStmt-F.While e x p)

pub stm_do : (structs : List Struct) (x : TStmt) (e : TExpr) (p : Pos)
    → stm structs (variant.Do x e p) ≡ Do p (stm structs x) (exp structs e)
stm_do structs x e p =
    ap (stm structs) (sym (variant.rolls-Do x e p)) ∙ fold-roll-TStmt Stm (stm_step structs) (TStmt-F.Do x e p)

pub stm_for : (structs : List Struct) (f : TForStart) (c n : Option TExpr) (x : TStmt) (p : Pos)
    → stm structs (variant.For f c n x p) ≡ For p (start_of structs f) (exp_if structs c) (exp_if structs n) (stm structs x)
stm_for structs f c n x p =
    ap (stm structs) (sym (variant.rolls-For f c n x p)) ∙ fold-roll-TStmt Stm (stm_step structs) (TStmt-F.For f c n x p)
