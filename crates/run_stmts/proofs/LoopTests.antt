-- The test of a loop in its turn.
use Rattle.std.proofs.Common.{◌≡◌, ℕ, Bool, true, Some, sym, ap, ◌∙◌}
use Rattle.std.specs.Prelude.{Ok, if◌then◌else◌}
use Rattle.sc_base.specs.declared.pos.Pos.{Pos}
use Rattle.sc_typed.specs.declared.expr.TExpr.{TExpr}
use Rattle.sum_rows.specs.declared.report.What.TheVariants as what
use Rattle.sc_typed.specs.declared.stmt.TStmt.{TStmt}
use Rattle.sc_world.specs.View.{exp, stm}
use Rattle.sc_world.specs.World.{World, Env, goes_on, done}
use Rattle.sc_world.specs.Exec.{Flow, Next, condition, exec, in_turn}
use Rattle.run_stmts.specs.declared.loops.Loop.{Loop as Tests}
use Rattle.run_stmts.specs.Loops.{test_first, behind_body, loop_turn}
use Rattle.run_stmts.specs.Seen.{loop_of}

-- what reads as the turn of a loop does tests as that turn
pub test_in : (p : Pos) (x : TExpr) (env tested : Env) (n t m k : ℕ) (w : World) → tested ≡ in_turn env n t → n ≡ m → t ≡ k
    → condition p what.Loop (exp env.source.structs x) (in_turn env m k) w
    ≡ condition p what.Loop (exp tested.source.structs x) tested w
test_in p x env tested n t m k w is times turn =
    ap (λ j. condition p what.Loop (exp env.source.structs x) (in_turn env j k) w) (sym times)
    ∙ (ap (λ j. condition p what.Loop (exp env.source.structs x) (in_turn env n j) w) (sym turn)
    ∙ ap (λ (y : Env). condition p what.Loop (exp y.source.structs x) y w) (sym is))

-- one turn whose test holds
pub turn_in : (tests : Tests) (p : Pos) (body : TStmt) (env within : Env) (n t : ℕ) (b : Bool) (f : Flow) (w mid late : World)
    → within ≡ in_turn env n t → n ≡ env.source.depth
    → test_first (loop_of env.source.structs tests) p env t w ≡ (Ok b, mid) → b ≡ true
    → exec (stm within.source.structs body) within mid ≡ (Ok f, late)
    → loop_turn (loop_of env.source.structs tests) p env (stm env.source.structs body) t w
    ≡ behind_body (loop_of within.source.structs tests) p within f late
turn_in tests p body env within n t b f w mid late is depth tested holds executed =
    let l = loop_of env.source.structs tests in
    let s = stm env.source.structs body in
    let turned = λ (b : Bool). if b
    then (λ (w : World). goes_on (exec s (in_turn env env.source.depth t) w) (λ f. behind_body l p (in_turn env env.source.depth t) f))
    else done (Some Next) in
    let at : in_turn env env.source.depth t ≡ within = ap (λ j. in_turn env j t) (sym depth) ∙ sym is in
    ap (λ r. goes_on r turned) tested ∙ (ap (λ b. turned b mid) holds
    ∙ (ap (λ (y : Env). goes_on (exec (stm y.source.structs body) y mid) (λ f. behind_body (loop_of y.source.structs tests) p y f)) at
    ∙ ap (λ r. goes_on r (λ f. behind_body (loop_of within.source.structs tests) p within f)) executed))
