-- Statements that hold statements: what is known of their parts gives what is due for them.
use Rattle.std.proofs.Common.{◌≡◌, Option, Some, Result, List, map, ap, sym, ◌∙◌, subst}
use Rattle.sc_base.specs.declared.pos.Pos.{Pos}
use Rattle.sc_tree.specs.declared.expr.Expr.{Expr}
use Rattle.sc_tree.specs.declared.stmt.Stmt.{Stmt, Stmt-F}
use Rattle.sc_tree.specs.declared.stmt.Stmt.TheFolds.{fold-roll-Stmt}
use Rattle.sc_tree.specs.declared.stmt.Stmt.TheVariants as variant
use Rattle.sc_typed.specs.declared.expr.TExpr.{TExpr}
use Rattle.sc_typed.specs.declared.stmt.TStmt.{TStmt}
use Rattle.sc_rules.specs.declared.walk.Walk.{Walk}
use Rattle.sc_rules.specs.Gives.{Gives}
use Rattle.sc_rules.specs.Walks.{Check, scoped, open_scope, no_scope, close_scope, then_with, done}
use Rattle.sc_statements.specs.Forms.{if_else_of}
use Rattle.sc_typing.specs.Here.{Here}
use Rattle.sc_bodies.specs.Bodies.{Inside, Stating, condition, if_statement, while_statement, switch_statement, plain, stmt_step, stating}
use Rattle.sc_bodies.specs.Parts.{closed_if_else}

-- what the step of a statement with `else` is
stating_else : (here : Here) (e : Expr) (x z : Stmt) (at : Pos)
    → stating here (variant.If e x (Some z) at)
    ≡ plain here (λ s. scoped (if_statement here at e (stating here x) (Some (stating here z)) s))
stating_else here e x z at =
    ap (stating here) (sym (variant.rolls-If e x (Some z) at))
    ∙ fold-roll-Stmt Stating (stmt_step here) (Stmt-F.If e x (Some z) at)

-- the steps that are left, behind each one that is known
abbrev branch_left : (at : Pos) (c : Option TExpr) (y : Option TStmt) (m : Check (Option TStmt)) → Walk → Option TStmt × Walk
branch_left at c y m w = then_with (m w) (λ t. closed_if_else at c y t)

pub else_gives : {E : Type 0} (here : Here) (at : Pos) (e e' : Expr) (x x' z z' t : Stmt) (o : Option Stmt) (s : Inside)
    (w w1 w2 w3 w4 : Walk) (u : Unit {0}) (c : Option TExpr) (p q : Option TStmt) (r : Result (Option TStmt) E) (v : Walk)
    → t ≡ variant.If e x o at → o ≡ Some z → e' ≡ e → x' ≡ x → z' ≡ z
    → open_scope no_scope w ≡ (u, w1) → condition here at e' w1 ≡ (c, w2)
    → scoped ((stating here x').run s) w2 ≡ (p, w3) → scoped ((stating here z').run s) w3 ≡ (q, w4)
    → Gives (closed_if_else at c p q w4) r v
    → Gives ((stating here t).run s w) r v
else_gives here at e e' x x' z z' t o s w w1 w2 w3 w4 u c p q r v is some same_e same_x same_z opened judged first second closed =
    let tree : t ≡ variant.If e' x' (Some z') at =
    is ∙ ap (λ a. variant.If e x a at) some ∙ ap (λ a. variant.If a x (Some z) at) (sym same_e)
    ∙ ap (λ a. variant.If e' a (Some z) at) (sym same_x) ∙ ap (λ a. variant.If e' x' (Some a) at) (sym same_z) in
    let step : (stating here t).run s w ≡ scoped (if_statement here at e' (stating here x') (Some (stating here z')) s) w =
    ap (λ (m : Stating). m.run s w) (ap (stating here) tree ∙ stating_else here e' x' z' at) in
    let due : scoped (if_statement here at e' (stating here x') (Some (stating here z')) s) w ≡ closed_if_else at c p q w4 =
    ap (λ (k : Unit {0} × Walk). then_with (condition here at e' k.1) (λ a. λ b. then_with (scoped ((stating here x').run s) b)
    (λ y. branch_left at a y (scoped ((stating here z').run s))))) opened
    ∙ (ap (λ (k : Option TExpr × Walk). then_with k (λ a. λ b. then_with (scoped ((stating here x').run s) b)
    (λ y. branch_left at a y (scoped ((stating here z').run s))))) judged
    ∙ (ap (λ (k : Option TStmt × Walk). then_with k (λ y. branch_left at c y (scoped ((stating here z').run s)))) first
    ∙ ap (λ (k : Option TStmt × Walk). then_with k (λ y. closed_if_else at c p y)) second)) in
    subst (λ (k : Option TStmt × Walk). Gives k r v) (sym (step ∙ due)) closed

-- `while`
stating_while : (here : Here) (e : Expr) (x : Stmt) (at : Pos)
    → stating here (variant.While e x at)
    ≡ plain here (λ s. scoped (while_statement here at e (stating here x) s))
stating_while here e x at =
    ap (stating here) (sym (variant.rolls-While e x at))
    ∙ fold-roll-Stmt Stating (stmt_step here) (Stmt-F.While e x at)

pub while_gives : {E : Type 0} (here : Here) (at : Pos) (e e' : Expr) (x x' t : Stmt) (s : Inside) (w : Walk)
    (r : Result (Option TStmt) E) (v : Walk)
    → t ≡ variant.While e x at → e' ≡ e → x' ≡ x
    → Gives (scoped (while_statement here at e' (stating here x') s) w) r v
    → Gives ((stating here t).run s w) r v
while_gives here at e e' x x' t s w r v is same_e same_x given =
    let tree : t ≡ variant.While e' x' at =
    is ∙ ap (λ a. variant.While a x at) (sym same_e) ∙ ap (λ a. variant.While e' a at) (sym same_x) in
    let step : (stating here t).run s w ≡ scoped (while_statement here at e' (stating here x') s) w =
    ap (λ (m : Stating). m.run s w) (ap (stating here) tree ∙ stating_while here e' x' at) in
    subst (λ (k : Option TStmt × Walk). Gives k r v) (sym step) given

-- `switch`
stating_switch : (here : Here) (e : Expr) (xs : List Stmt) (at to : Pos)
    → stating here (variant.Switch e xs at to)
    ≡ plain here (λ s. scoped (switch_statement here at to e (map (stating here) xs) s))
stating_switch here e xs at to =
    ap (stating here) (sym (variant.rolls-Switch e xs at to))
    ∙ fold-roll-Stmt Stating (stmt_step here) (Stmt-F.Switch e xs at to)

pub switch_gives : {E : Type 0} (here : Here) (at to : Pos) (e e' : Expr) (xs xs' : List Stmt) (t : Stmt) (s : Inside)
    (w : Walk) (r : Result (Option TStmt) E) (v : Walk)
    → t ≡ variant.Switch e xs at to → e' ≡ e → xs' ≡ xs
    → Gives (scoped (switch_statement here at to e' (map (stating here) xs') s) w) r v
    → Gives ((stating here t).run s w) r v
switch_gives here at to e e' xs xs' t s w r v is same_e same_xs given =
    let tree : t ≡ variant.Switch e' xs' at to =
    is ∙ ap (λ a. variant.Switch a xs at to) (sym same_e) ∙ ap (λ a. variant.Switch e' a at to) (sym same_xs) in
    let step : (stating here t).run s w ≡ scoped (switch_statement here at to e' (map (stating here) xs') s) w =
    ap (λ (m : Stating). m.run s w) (ap (stating here) tree ∙ stating_switch here e' xs' at to) in
    subst (λ (k : Option TStmt × Walk). Gives k r v) (sym step) given
