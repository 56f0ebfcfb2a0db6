-- A `switch`, behind its event.
use Rattle.std.proofs.Common.{◌≡◌, ℕ, List, sym, ap, ◌∙◌}
use Rattle.std.specs.Prelude.{Ok}
use Rattle.sc_base.specs.declared.pos.Pos.{Pos}
use Rattle.sc_typed.specs.declared.expr.TExpr.{TExpr}
use Rattle.sc_typed.specs.declared.stmt.TStmt.{TStmt, TStmt-F}
use Rattle.sc_typed.specs.declared.stmt.TStmt.TheFolds.{fold-roll-TStmt}
use Rattle.sc_typed.specs.declared.stmt.TStmt.TheVariants as variant
use Rattle.sum_rows.specs.declared.report.What.{What}
use Rattle.sc_gather.specs.Seen.{statements_of}
use Rattle.run_store.specs.Concrete.{Cell}
use Rattle.sc_world.specs.Source.{Struct}
use Rattle.sc_world.specs.View.{exp, stm, stm_step}
use Rattle.sc_world.specs.Tree.{Exp, Stm, Stms, Switch, type_of}
use Rattle.sc_world.specs.World.{World, Env, goes_on, event, number_of}
use Rattle.sc_world.specs.Eval.{Value, eval}
use Rattle.sc_world.specs.Exec.{exec, exec_all, switch_event, switch_by, chosen_item}

pub stm_switch : (structs : List Struct) (e : TExpr) (xs : List TStmt) (p q : Pos)
    → stm structs (variant.Switch e xs p q) ≡ Switch p (exp structs e) (statements_of structs xs)
stm_switch structs e xs p q =
    ap (stm structs) (sym (variant.rolls-Switch e xs p q))
    ∙ fold-roll-TStmt Stm (stm_step structs) (TStmt-F.Switch e xs p q)

pub switch_goes : (p : Pos) (e : Exp) (ss : Stms) (s : Stm) (env : Env) (w mid late : World) (v : Cell) (x : What) (n : ℕ)
    → s ≡ Switch p e ss → eval e Value env w ≡ (Ok v, mid) → x ≡ switch_event env (type_of e) v
    → event p x mid ≡ (Ok tt, late) → n ≡ number_of v
    → exec s env w ≡ switch_by (chosen_item n ss) (λ k. exec_all ss k env) late
switch_goes p e ss s env w mid late v x n is evaluated what told number =
    ap (λ s. exec s env w) is
    ∙ (ap (λ r. goes_on r (λ v. λ w. goes_on (event p (switch_event env (type_of e) v) w)
    (λ _. switch_by (chosen_item (number_of v) ss) (λ k. exec_all ss k env)))) evaluated
    ∙ (ap (λ x. goes_on (event p x mid) (λ _. switch_by (chosen_item (number_of v) ss) (λ k. exec_all ss k env))) (sym what)
    ∙ (ap (λ r. goes_on r (λ _. switch_by (chosen_item (number_of v) ss) (λ k. exec_all ss k env))) told
    ∙ ap (λ n. switch_by (chosen_item n ss) (λ k. exec_all ss k env) late) (sym number))))
