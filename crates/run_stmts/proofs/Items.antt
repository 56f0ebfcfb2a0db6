-- One item of a block, and what follows it.
use Rattle.std.proofs.Common.{◌≡◌, ℕ, zero, suc, ◌+◌, ◌<◌, List, [], ◌∷◌, Bool, true, false, refl, sym, ap, ◌∙◌}
use Rattle.std.proofs.Common.{length, map, drop, slice_index_or, add-one, arith}
use Rattle.std.specs.Prelude.{Ok, Err, Result, if◌then◌else◌}
use Rattle.sc_typed.specs.declared.stmt.TStmt.{TStmt}
use Rattle.sc_gather.specs.Seen.{statements_of}
use Rattle.sc_world.specs.Source.{Struct}
use Rattle.sc_world.specs.View.{stm, stms}
use Rattle.sc_world.specs.Tree.{Stm, Stms, Stms'}
use Rattle.sc_world.specs.World.{World, Ended, Run, Env, goes_on, done}
use Rattle.sc_world.specs.Exec.{Flow, Next, Breaks, Continues, GoesTo, Returns, Seek, found, exec, exec_all, goes_on_in}
use Rattle.run_stmts.specs.Items.{After, Seeks, Ends, behind, one_item}

-- what a list is seen as from one on: that one, and the others
mapped_from : {A B : Type 0} (f : A → B) (xs : List A) (i : ℕ) (x : A) → i < length xs → x ≡ slice_index_or xs i x
    → map f (drop i xs) ≡ f x ∷ map f (drop (suc i) xs)
mapped_from f [] i x low is = absurd (omega arith)
mapped_from f (a ∷ xs) zero x low is = ap (λ y. f y ∷ map f xs) (sym is)
mapped_from f (a ∷ xs) (suc i) x low is = let low' : i < length xs = omega arith in mapped_from f xs i x low' is

-- the items from one on
pub next_item : (structs : List Struct) (xs : List TStmt) (i : ℕ) (x : TStmt) → i < length xs
    → x ≡ slice_index_or xs i x
    → statements_of structs (drop i xs) ≡ Stms' (stm structs x) (statements_of structs (drop (i + 1) xs))
next_item structs xs i x low is =
    ap stms (mapped_from (stm structs) xs i x low is)
    ∙ ap (λ n. Stms' (stm structs x) (statements_of structs (drop n xs))) (sym (add-one i))

abbrev rest_of : Stms → Env → After → Run Flow
rest_of rest env (Seeks k) = exec_all rest k env
rest_of rest env (Ends f) = done f

flow_by : (rest : Stms) (env : Env) (f : Flow) (w : World) → goes_on_in f (λ k. exec_all rest k env) w
    ≡ rest_of rest env (behind f) w
flow_by rest env Next w = refl
flow_by rest env Breaks w = refl
flow_by rest env Continues w = refl
flow_by rest env (GoesTo n) w = refl
flow_by rest env (Returns v) w = refl

flows_by : (rest : Stms) (env : Env) (r : Result Flow Ended × World)
    → goes_on r (λ f. goes_on_in f (λ k. exec_all rest k env))
    ≡ goes_on (goes_on r (λ f. done (behind f))) (rest_of rest env)
flows_by rest env (Ok f, w) = flow_by rest env f w
flows_by rest env (Err e, w) = refl

item_if : (s : Stm) (rest : Stms) (seek : Seek) (env : Env) (w : World) (b : Bool)
    → (if b then (λ w. goes_on (exec s env w) (λ f. goes_on_in f (λ k. exec_all rest k env))) else exec_all rest seek
    env) w
    ≡ goes_on ((if b then (λ w. goes_on (exec s env w) (λ f. done (behind f))) else done (Seeks seek)) w)
    (rest_of rest env)
item_if s rest seek env w true = flows_by rest env (exec s env w)
item_if s rest seek env w false = refl

item_by : (s : Stm) (rest : Stms) (seek : Seek) (env : Env) (w : World)
    → exec_all (Stms' s rest) seek env w ≡ goes_on (one_item s seek env w) (rest_of rest env)
item_by s rest seek env w = item_if s rest seek env w (found seek s)

pub item_seeks : (s : Stm) (rest : Stms) (seek k : Seek) (env : Env) (w after : World) → one_item s seek env w
    ≡ (Ok (Seeks k), after)
    → exec_all (Stms' s rest) seek env w ≡ exec_all rest k env after
item_seeks s rest seek k env w after h = item_by s rest seek env w ∙ ap (λ r. goes_on r (rest_of rest env)) h

pub item_ends : (s : Stm) (rest : Stms) (seek : Seek) (f : Flow) (env : Env) (w after : World) → one_item s seek env w
    ≡ (Ok (Ends f), after)
    → exec_all (Stms' s rest) seek env w ≡ (Ok f, after)
item_ends s rest seek f env w after h = item_by s rest seek env w ∙ ap (λ r. goes_on r (rest_of rest env)) h

pub item_errs : (s : Stm) (rest : Stms) (seek : Seek) (e : Ended) (env : Env) (w after : World)
    → one_item s seek env w ≡ (Err e, after)
    → exec_all (Stms' s rest) seek env w ≡ (Err e, after)
item_errs s rest seek e env w after h = item_by s rest seek env w ∙ ap (λ r. goes_on r (rest_of rest env)) h

pub ruleset item_steps = (item_seeks, item_ends, item_errs)
