-- The three kinds of loops are turns of one kind, and what one turn leaves of the others.
use Rattle.std.proofs.Common.{◌≡◌, ℕ, zero, suc, ◌+◌, ◌-◌, ◌*◌, ◌<◌, ◌≤◌, Bool, true, false, Option, Some, None}
use Rattle.std.proofs.Common.{refl, sym, ap, ◌∙◌, arith}
use Rattle.std.specs.Prelude.{Ok, Err, Result, if◌then◌else◌}
use Rattle.sc_base.specs.declared.pos.Pos.{Pos}
use Rattle.sum_rows.specs.declared.report.What.TheVariants as what
use Rattle.sc_world.specs.Tree.{Exp, Stm}
use Rattle.sc_world.specs.World.{World, Ended, Run, Env, goes_on, done}
use Rattle.sc_world.specs.Exec.{Flow, Next, Breaks, Continues, GoesTo, Returns, exec, turns, do_turns, after_turn, again}
use Rattle.sc_world.specs.Exec.{while_by, do_by, for_by, condition, condition_if, with_step, in_turn}
use Rattle.run_exprs.specs.Room.{room}
use Rattle.run_room.specs.Room.{room_if}
use Rattle.run_stmts.specs.Loops.{Loop, While, For, Do, ended_by, tested_behind, loop_turn, last_test, more_or, loops}
use Rattle.run_stmts.specs.Loops.{loop_stm, first_room, turn_room, turns_room}
use Rattle.run_stmts.specs.Room.{Fits}
use Rattle.run_stmts.proofs.Fits.{fits_less, fits_tests, body_fits, room_turn, room_last}

-- steps in a row
in_a_row : {A B C : Type 0} (r : Result A Ended × World) (f : A → Run B) (g : B → Run C)
    → goes_on (goes_on r f) g ≡ goes_on r (λ a. λ w. goes_on (f a w) g)
in_a_row (Ok a, w) f g = refl
in_a_row (Err e, w) f g = refl

-- behind a body: the rest of the loop, or its end
body_flows : (more rest : Run Flow) → ((w : World) → more w ≡ rest w) → (r : Result Flow Ended × World)
    → goes_on r (λ f. after_turn f more) ≡ goes_on (goes_on r (λ f. done (ended_by f))) (more_or rest)
body_flows more rest h (Ok Next, w) = h w
body_flows more rest h (Ok Breaks, w) = refl
body_flows more rest h (Ok Continues, w) = h w
body_flows more rest h (Ok (GoesTo n), w) = refl
body_flows more rest h (Ok (Returns v), w) = refl
body_flows more rest h (Err e, w) = refl

-- a turn that tests first, with a body that ends the loop as `ends` says
turn_of : (body : Run Flow) (ends : Run (Option Flow)) (more rest : Run Flow)
    → ((w : World) → goes_on (body w) (λ f. done (ended_by f)) ≡ ends w) → ((w : World) → more w ≡ rest w)
    → (r : Result Bool Ended × World)
    → goes_on r (λ b. if b then (λ w. goes_on (body w) (λ f. after_turn f more)) else done Next)
    ≡ goes_on (goes_on r (λ b. if b then ends else done (Some Next))) (more_or rest)
turn_of body ends more rest is h (Ok true, w) =
    body_flows more rest h (body w) ∙ ap (λ r. goes_on r (more_or rest)) (is w)
turn_of body ends more rest is h (Ok false, w) = refl
turn_of body ends more rest is h (Err e, w) = refl

-- `while`
while_turns : (p : Pos) (e : Exp) (env : Env) (s : Stm) (left t : ℕ) (w : World)
    → turns left t (λ t. condition p what.Loop e (in_turn env (env.source.depth + 1) t))
    (λ t. exec s (in_turn env env.source.depth t)) w
    ≡ loops (While e) p env s left t w
unfolding loops
while_turns p e env s zero t w = refl
while_turns p e env s (suc left) t w =
    turn_of (exec s (in_turn env env.source.depth t))
    (λ w. goes_on (exec s (in_turn env env.source.depth t) w) (λ f. done (ended_by f)))
    (turns left (t + 1) (λ t. condition p what.Loop e (in_turn env (env.source.depth + 1) t))
    (λ t. exec s (in_turn env env.source.depth t)))
    (loops (While e) p env s left (t + 1)) (λ w. refl) (λ w. while_turns p e env s left (t + 1) w)
    (condition p what.Loop e (in_turn env (env.source.depth + 1) t) w)

while_is : (p : Pos) (e : Exp) (env : Env) (s : Stm) (w : World)
    → loops (While e) p env s env.source.depth 0 w ≡ while_by p e env (exec s) w
while_is p e env s w = sym (while_turns p e env s env.source.depth 0 w)

-- `for`
abbrev for_body : Option Exp → Stm → Env → Run Flow
for_body n s env w = goes_on (exec s env w) (λ f. with_step n env f)

abbrev for_ends : Option Exp → Stm → Env → Run (Option Flow)
for_ends n s env w = goes_on (exec s env w) (λ f. λ w. goes_on (with_step n env f w) (λ g. done (ended_by g)))

for_turns : (p : Pos) (c n : Option Exp) (env : Env) (s : Stm) (left t : ℕ) (w : World)
    → turns left t (λ t. condition_if p c (in_turn env (env.source.depth + 1) t))
    (λ t. for_body n s (in_turn env env.source.depth t)) w
    ≡ loops (For c n) p env s left t w
unfolding loops
for_turns p c n env s zero t w = refl
for_turns p c n env s (suc left) t w =
    turn_of (for_body n s (in_turn env env.source.depth t)) (for_ends n s (in_turn env env.source.depth t))
    (turns left (t + 1) (λ t. condition_if p c (in_turn env (env.source.depth + 1) t))
    (λ t. for_body n s (in_turn env env.source.depth t)))
    (loops (For c n) p env s left (t + 1))
    (λ w. in_a_row (exec s (in_turn env env.source.depth t) w) (λ f. with_step n (in_turn env env.source.depth t) f)
    (λ g. done (ended_by g)))
    (λ w. for_turns p c n env s left (t + 1) w)
    (condition_if p c (in_turn env (env.source.depth + 1) t) w)

for_is : (p : Pos) (c n : Option Exp) (env : Env) (s : Stm) (w : World)
    → loops (For c n) p env s env.source.depth 0 w ≡ for_by p c n env (exec s) w
for_is p c n env s w = sym (for_turns p c n env s env.source.depth 0 w)

-- `do`
again_is : (left t : ℕ) (test : ℕ → Run Bool) (body : ℕ → Run Flow) (rest : Run Flow)
    → ((w : World) → do_turns left t test body w ≡ rest w) → (b : Bool) (w : World)
    → again b left (do_turns left t test body) w ≡ more_or rest (if b then None else Some Next) w
again_is left t test body rest h false w = refl
again_is zero t test body rest h true w = h w
again_is (suc left) t test body rest h true w = h w

agains : (left t : ℕ) (test : ℕ → Run Bool) (body : ℕ → Run Flow) (rest : Run Flow)
    → ((w : World) → do_turns left t test body w ≡ rest w) → (r : Result Bool Ended × World)
    → goes_on r (λ b. again b left (do_turns left t test body))
    ≡ goes_on (goes_on r (λ b. done (if b then None else Some Next))) (more_or rest)
agains left t test body rest h (Ok b, w) = again_is left t test body rest h b w
agains left t test body rest h (Err e, w) = refl

do_flows : (tested : Run Bool) (left t : ℕ) (test : ℕ → Run Bool) (body : ℕ → Run Flow) (rest : Run Flow)
    → ((w : World) → do_turns left t test body w ≡ rest w) → (r : Result Flow Ended × World)
    → goes_on r (λ f. after_turn f (λ w. goes_on (tested w) (λ b. again b left (do_turns left t test body))))
    ≡ goes_on (goes_on r (λ f. tested_behind tested (ended_by f))) (more_or rest)
do_flows tested left t test body rest h (Ok Next, w) = agains left t test body rest h (tested w)
do_flows tested left t test body rest h (Ok Breaks, w) = refl
do_flows tested left t test body rest h (Ok Continues, w) = agains left t test body rest h (tested w)
do_flows tested left t test body rest h (Ok (GoesTo n), w) = refl
do_flows tested left t test body rest h (Ok (Returns v), w) = refl
do_flows tested left t test body rest h (Err e, w) = refl

do_loops : (p : Pos) (e : Exp) (env : Env) (s : Stm) (left t : ℕ) (w : World)
    → do_turns left t (λ t. condition p what.Loop e (in_turn env env.source.depth t))
    (λ t. exec s (in_turn env env.source.depth t)) w
    ≡ loops (Do e) p env s left t w
unfolding loops
do_loops p e env s zero t w = refl
do_loops p e env s (suc left) t w =
    do_flows (condition p what.Loop e (in_turn env env.source.depth t)) left (t + 1)
    (λ t. condition p what.Loop e (in_turn env env.source.depth t)) (λ t. exec s (in_turn env env.source.depth t))
    (loops (Do e) p env s left (t + 1)) (λ w. do_loops p e env s left (t + 1) w)
    (exec s (in_turn env env.source.depth t) w)

do_is : (p : Pos) (e : Exp) (env : Env) (s : Stm) (w : World)
    → loops (Do e) p env s env.source.depth 0 w ≡ do_by p e env (exec s) w
do_is p e env s w = sym (do_loops p e env s env.source.depth 0 w)

-- One turn, and what it leaves of the others.

loop_by : (l : Loop) (p : Pos) (env : Env) (s : Stm) (depth t : ℕ) (w : World) → t < depth
    → loops l p env s (depth - t) t w
    ≡ goes_on (loop_turn l p env s t w) (more_or (loops l p env s (depth - (t + 1)) (t + 1)))
unfolding loops
loop_by l p env s depth t w low =
    let e : depth - t ≡ suc (depth - (t + 1)) = omega arith in ap (λ n. loops l p env s n t w) e

pub loop_on : (l : Loop) (p : Pos) (env : Env) (s : Stm) (depth t : ℕ) (w after : World) → t < depth
    → loop_turn l p env s t w ≡ (Ok None, after)
    → loops l p env s (depth - t) t w ≡ loops l p env s (depth - (t + 1)) (t + 1) after
loop_on l p env s depth t w after low h =
    loop_by l p env s depth t w low
    ∙ ap (λ r. goes_on r (more_or (loops l p env s (depth - (t + 1)) (t + 1)))) h

pub loop_ends : (l : Loop) (p : Pos) (env : Env) (s : Stm) (depth t : ℕ) (f : Flow) (w after : World) → t < depth
    → loop_turn l p env s t w ≡ (Ok (Some f), after) → loops l p env s (depth - t) t w ≡ (Ok f, after)
loop_ends l p env s depth t f w after low h =
    loop_by l p env s depth t w low
    ∙ ap (λ r. goes_on r (more_or (loops l p env s (depth - (t + 1)) (t + 1)))) h

pub loop_errs : (l : Loop) (p : Pos) (env : Env) (s : Stm) (depth t : ℕ) (x : Ended) (w after : World) → t < depth
    → loop_turn l p env s t w ≡ (Err x, after) → loops l p env s (depth - t) t w ≡ (Err x, after)
loop_errs l p env s depth t x w after low h =
    loop_by l p env s depth t w low
    ∙ ap (λ r. goes_on r (more_or (loops l p env s (depth - (t + 1)) (t + 1)))) h

loop_all : (l : Loop) (p : Pos) (env : Env) (s : Stm) (depth : ℕ) (w : World)
    → loops l p env s (depth - 0) 0 w ≡ loops l p env s depth 0 w
loop_all l p env s depth w = let e : depth - 0 ≡ depth = omega arith in ap (λ n. loops l p env s n 0 w) e

-- all turns are the loop
loop_is : (l : Loop) (p : Pos) (env : Env) (s : Stm) (w : World)
    → loops l p env s env.source.depth 0 w ≡ exec (loop_stm l p s) env w
loop_is (While e) p env s w = while_is p e env s w
loop_is (For c n) p env s w = for_is p c n env s w
loop_is (Do e) p env s w = do_is p e env s w

pub loop_begins : (l : Loop) (p : Pos) (env : Env) (s : Stm) (w : World)
    → loops l p env s (env.source.depth - 0) 0 w ≡ exec (loop_stm l p s) env w
loop_begins l p env s w = loop_all l p env s env.source.depth w ∙ loop_is l p env s w

pub loop_last : (l : Loop) (p : Pos) (env : Env) (s : Stm) (depth t : ℕ) (w : World) → depth ≤ t → t ≤ depth
    → loops l p env s (depth - t) t w ≡ last_test l p env depth w
unfolding loops
loop_last l p env s depth t w past low =
    let e : depth - t ≡ zero = omega arith in
    let at : t ≡ depth = omega arith in
    ap (λ n. loops l p env s n t w) e ∙ ap (λ k. last_test l p env k w) at

-- Its room.

pub turns_turn : (l : Loop) (depth t b : ℕ) → t < depth
    → turns_room l (depth - t) b ≡ turn_room l b + turns_room l (depth - (t + 1)) b
unfolding turns_room
turns_turn (While e) depth t b low = let h = room_turn depth t (room e + 1) b low in omega (arith, h)
turns_turn (For c n) depth t b low = let h = room_turn depth t (room_if c + 1) (b + room_if n) low in omega (arith, h)
turns_turn (Do e) depth t b low = let h = room_turn depth t (room e + 1) b low in omega (arith, h)

pub turns_all : (l : Loop) (depth b : ℕ) → turns_room l (depth - 0) b ≡ turns_room l depth b
turns_all l depth b = let e : depth - 0 ≡ depth = omega arith in ap (λ n. turns_room l n b) e

pub turns_last : (l : Loop) (k b : ℕ) → first_room l ≤ turns_room l k b
unfolding turns_room
turns_last (While e) k b = room_last k (room e + 1) b
turns_last (For c n) k b = room_last k (room_if c + 1) (b + room_if n)
turns_last (Do e) k b = omega arith

pub turns_one : (l : Loop) (depth b : ℕ) → 0 < depth → turn_room l b ≤ turns_room l depth b
turns_one l depth b some =
    let h = turns_turn l depth 0 b some in let e = turns_all l depth b in omega (arith, h, e)

-- Its turns.

pub loop_tests_fit : (l : Loop) (turn depth b : ℕ) → Fits turn (turns_room l depth b) → Fits turn (depth + 1)
unfolding turns_room
loop_tests_fit (While e) turn depth b fits = fits_tests turn depth (room e) b fits
loop_tests_fit (For c n) turn depth b fits = fits_tests turn depth (room_if c) (b + room_if n) fits
loop_tests_fit (Do e) turn depth b fits = fits_tests turn depth (room e) b fits

pub loop_body_fits : (l : Loop) (turn depth b t : ℕ) → t < depth → Fits turn (turns_room l depth b)
    → Fits (turn * depth + t) b
unfolding turns_room
loop_body_fits (While e) turn depth b t low fits = body_fits turn depth (room e + 1) b t low fits
loop_body_fits (For c n) turn depth b t low fits =
    fits_less (turn * depth + t) b (b + room_if n) (omega arith)
    (body_fits turn depth (room_if c + 1) (b + room_if n) t low fits)
loop_body_fits (Do e) turn depth b t low fits = body_fits turn depth (room e + 1) b t low fits

pub ruleset loop_steps = (loop_begins, turns_turn, turns_all, turns_last, turns_one, loop_on, loop_ends, loop_errs, loop_last, loop_tests_fit, loop_body_fits)
