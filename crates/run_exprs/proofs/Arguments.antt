-- The values of arguments, one after another.
use Rattle.std.proofs.Common.{◌≡◌, ℕ, zero, suc, ◌+◌, ◌<◌, ◌≤◌, List, [], ◌∷◌, ◌++◌, length, map, take, drop, refl, sym, ap, ◌∙◌, append_assoc, length-append, slice_index_or, add-one, arith}
use Rattle.std.proofs.lemmas.List.{append-nil, map-append, drop-append-le, take-append-le}
use Rattle.std.proofs.Math.Seq.{drop-length}
use Rattle.std.specs.Prelude.{Ok, Err, Result}
use Rattle.run_store.specs.Concrete.{Cell}
use Rattle.sc_world.specs.World.{World, Ended, Env, goes_on, done}
use Rattle.sc_world.specs.Tree.{Exp, Exps, Exps'}
use Rattle.sc_world.specs.Eval.{eval, eval_all, Value}
use Rattle.run_world.specs.declared.value.Value.{Value as Value'}
use Rattle.run_world.specs.Seen.{cell}
use Rattle.sc_typed.specs.declared.expr.TExpr.{TExpr}
use Rattle.sc_world.specs.Source.{Struct}
use Rattle.sc_world.specs.View.{exp}
use Rattle.run_exprs.specs.Room.{room, room_all}
use Rattle.run_exprs.specs.Seen.{arguments_of}

-- nothing in front
pub none_before : (r : Result (List Cell) Ended × World) → goes_on r (λ vs. done ([] ++ vs)) ≡ r
none_before (Ok vs, w) = refl
none_before (Err e, w) = refl

-- nothing more
pub none_behind : (front : List Cell) (w : World) → goes_on (done [] w) (λ vs. done (front ++ vs)) ≡ (Ok front, w)
none_behind front w = ap (λ xs. (Ok xs, w)) (append-nil front)

-- one value more stands behind those in front
pub one_more : (r : Result (List Cell) Ended × World) (front : List Cell) (v : Cell)
    → goes_on (goes_on r (λ vs. done (v ∷ vs))) (λ vs. done (front ++ vs)) ≡ goes_on r (λ vs. done ((front ++ v ∷ []) ++ vs))
one_more (Ok vs, w) front v = ap (λ xs. (Ok xs, w)) (sym (append_assoc front (v ∷ []) vs))
one_more (Err e, w) front v = refl

-- an argument that is evaluated: its value stands behind those in front
pub argument_more : (env : Env) (e : Exp) (es : Exps) (w after : World) (front : List Cell) (v : Cell)
    → eval e Value env w ≡ (Ok v, after)
    → goes_on (eval_all (Exps' e es) env w) (λ vs. done (front ++ vs))
    ≡ goes_on (eval_all es env after) (λ vs. done ((front ++ v ∷ []) ++ vs))
argument_more env e es w after front v h =
    ap (λ r. goes_on (goes_on r (λ v. λ w. goes_on (eval_all es env w) (λ vs. done (v ∷ vs)))) (λ vs. done (front ++ vs))) h
    ∙ one_more (eval_all es env after) front v

-- a value that is pushed stands behind the others
pub pushed : (from : ℕ) (values : List Value') (v : Value') → from ≤ length values
    → map cell (drop from (values ++ v ∷ [])) ≡ map cell (drop from values) ++ cell v ∷ []
pushed from values v low = ap (map cell) (drop-append-le from values (v ∷ []) low) ∙ map-append cell (drop from values) (v ∷ [])

-- before the first argument no value stands behind those that are kept already
pub first_argument : (r : Result (List Cell) Ended × World) (values : List Value')
    → goes_on r (λ vs. done (map cell (drop (length values) values) ++ vs)) ≡ r
first_argument r values =
    ap (λ xs. goes_on r (λ vs. done (map cell xs ++ vs))) (drop-length values) ∙ none_before r

-- the arguments from one on: that one, and the others
arguments_from : (structs : List Struct) (args : List TExpr) (i : ℕ) (e : TExpr) → i < length args → e ≡ slice_index_or args i e
    → arguments_of structs (drop i args) ≡ Exps' (exp structs e) (arguments_of structs (drop (suc i) args))
arguments_from structs [] i e low is = absurd (omega arith)
arguments_from structs (a ∷ args) zero e low is =
    ap (λ x. Exps' (exp structs x) (arguments_of structs args)) (sym is)
arguments_from structs (a ∷ args) (suc i) e low is = let low' : i < length args = omega arith in arguments_from structs args i e low' is

pub next_arguments : (structs : List Struct) (items args : List TExpr) (i : ℕ) (e : TExpr) → items ≡ args → i < length args
    → e ≡ slice_index_or items i e
    → arguments_of structs (drop i args) ≡ Exps' (exp structs e) (arguments_of structs (drop (i + 1) args))
next_arguments structs items args i e same low is =
    let is' : e ≡ slice_index_or args i e = is ∙ ap (λ xs. slice_index_or xs i e) same in
    arguments_from structs args i e low is'
    ∙ ap (λ n. Exps' (exp structs e) (arguments_of structs (drop n args))) (sym (add-one i))

-- the next argument: its value stands behind those that were evaluated before
pub next_argument : (env : Env) (structs : List Struct) (args : List TExpr) (i : ℕ) (e : TExpr) (w after : World) (from : ℕ)
    (values kept new : List Value') (v : Value') (total : Result (List Cell) Ended × World)
    → arguments_of structs (drop i args) ≡ Exps' (exp structs e) (arguments_of structs (drop (i + 1) args))
    → eval (exp structs e) Value env w ≡ (Ok (cell v), after) → kept ≡ values → new ≡ kept ++ v ∷ [] → from ≤ length values
    → goes_on (eval_all (arguments_of structs (drop i args)) env w) (λ vs. done (map cell (drop from values) ++ vs)) ≡ total
    → goes_on (eval_all (arguments_of structs (drop (i + 1) args)) env after) (λ vs. done (map cell (drop from new) ++ vs)) ≡ total
next_argument env structs args i e w after from values kept new v total next h same push low all =
    let rest = arguments_of structs (drop (i + 1) args) in
    let is : new ≡ values ++ v ∷ [] = push ∙ ap (λ xs. xs ++ v ∷ []) same in
    ap (λ xs. goes_on (eval_all rest env after) (λ vs. done (map cell (drop from xs) ++ vs))) is
    ∙ (ap (λ xs. goes_on (eval_all rest env after) (λ vs. done (xs ++ vs))) (pushed from values v low)
    ∙ (sym (argument_more env (exp structs e) rest w after (map cell (drop from values)) (cell v) h)
    ∙ (sym (ap (λ es. goes_on (eval_all es env w) (λ vs. done (map cell (drop from values) ++ vs))) next) ∙ all)))

-- it needs its room, and one more for its value
pub argument_room : (structs : List Struct) (args : List TExpr) (i : ℕ) (e : TExpr)
    → arguments_of structs (drop i args) ≡ Exps' (exp structs e) (arguments_of structs (drop (i + 1) args))
    → room_all (arguments_of structs (drop i args)) ≡ room (exp structs e) + (room_all (arguments_of structs (drop (i + 1) args)) + 1)
argument_room structs args i e next = ap room_all next

-- the values in front stay
pub front_stays : (from : ℕ) (values kept new entry : List Value') (v : Value') → kept ≡ values → new ≡ kept ++ v ∷ []
    → from ≤ length values → take from values ≡ entry → take from new ≡ entry
front_stays from values kept new entry v same push low front =
    ap (take from) (push ∙ ap (λ xs. xs ++ v ∷ []) same) ∙ (take-append-le from values (v ∷ []) low ∙ front)

pub one_longer : (values kept new : List Value') (v : Value') → kept ≡ values → new ≡ kept ++ v ∷ [] → length new ≡ length values + 1
one_longer values kept new v same push = ap length (push ∙ ap (λ xs. xs ++ v ∷ []) same) ∙ length-append values (v ∷ [])

pub ruleset argument_steps = (none_before, one_more)
