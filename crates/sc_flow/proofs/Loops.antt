-- The turns of a loop, from the last one to the first.
use Rattle.std.proofs.Common.{◌≡◌, ℕ, zero, suc, ◌+◌, ◌-◌, ◌<◌, ◌≤◌, Option, None, List, refl, sym, ap, ◌∙◌, arith}
use Rattle.std.specs.Prelude.{Some}
use Rattle.sc_base.specs.declared.pos.NameId.{NameId}
use Rattle.sc_base.specs.declared.pos.Pos.{Pos}
use Rattle.sc_typed.specs.declared.expr.TExpr.{TExpr}
use Rattle.sc_typed.specs.declared.stmt.TForStart.{TForStart}
use Rattle.sc_typed.specs.declared.stmt.TStmt.{TStmt, TStmt-F}
use Rattle.sc_typed.specs.declared.stmt.TStmt.TheFolds.{fold-roll-TStmt}
use Rattle.sc_typed.specs.declared.stmt.TStmt.TheVariants as variant
use Rattle.sum_rows.specs.declared.report.What.TheVariants as what
use Rattle.sc_world.specs.Source.{Struct}
use Rattle.sc_world.specs.View.{exp, exp_if, start_of, stm, stm_step}
use Rattle.sc_world.specs.Tree.{Exp, Start, Stm, While, Do, For, Label}
use Rattle.flow_graph.specs.Growing.{Build, Growing}
use Rattle.flow_graph.specs.Expressions.{unroll}
use Rattle.sc_flow.specs.Steps as steps
use Rattle.flow_graph.specs.Statements.{Targets, Piece, while_turns, while_turn, last_turn, do_turns, do_turn, aside_at, in_loop, with_step, dropped_if, tested, turn_of, started, unroll_stm}

pub last_of : (d : ℕ) (test : ℕ → ℕ → ℕ → Build ℕ) (body : ℕ → Piece) (k : Targets) (g : Growing)
    → while_turns (d - d) d test body k g ≡ last_turn (test d) k g
last_of d test body k g = let e : d - d ≡ 0 = omega arith in ap (λ n. while_turns n d test body k g) e

pub turn_more : (d t : ℕ) (test : ℕ → ℕ → ℕ → Build ℕ) (body : ℕ → Piece) (k : Targets) (g : Growing) → 0 < t → t ≤ d
    → while_turns (d - (t - 1)) (t - 1) test body k g
    ≡ while_turn (test (t - 1)) (body (t - 1)) (while_turns (d - t) t test body) k g
turn_more d t test body k g low high =
    let e : d - (t - 1) ≡ suc (d - t) = omega (arith, low, high) in
    let f : t - 1 + 1 ≡ t = omega (arith, low) in
    ap (λ n. while_turns n (t - 1) test body k g) e
    ∙ ap (λ m. while_turn (test (t - 1)) (body (t - 1)) (while_turns (d - t) m test body) k g) f

pub do_more : (d t : ℕ) (test : ℕ → ℕ → ℕ → Build ℕ) (body : ℕ → Piece) (k : Targets) (g : Growing) → 0 < t → t ≤ d
    → do_turns (d - (t - 1)) (t - 1) test body k g ≡ do_turn (test (t - 1)) (body (t - 1)) (do_turns (d - t) t test body) k g
do_more d t test body k g low high =
    let e : d - (t - 1) ≡ suc (d - t) = omega (arith, low, high) in
    let f : t - 1 + 1 ≡ t = omega (arith, low) in
    ap (λ n. do_turns n (t - 1) test body k g) e
    ∙ ap (λ m. do_turn (test (t - 1)) (body (t - 1)) (do_turns (d - t) m test body) k g) f

pub do_last : (d : ℕ) (test : ℕ → ℕ → ℕ → Build ℕ) (body : ℕ → Piece) (k : Targets) (g : Growing)
    → do_turns (d - d) d test body k g ≡ aside_at k g
do_last d test body k g = let e : d - d ≡ 0 = omega arith in ap (λ n. do_turns n d test body k g) e

-- a loop without a step
pub without_step : (left t : ℕ) (test : ℕ → ℕ → ℕ → Build ℕ) (body : ℕ → Piece) (f : ℕ → ℕ) (k : Targets) (g : Growing)
    → while_turns left t test (λ t. with_step (body t) (dropped_if None (f t))) k g ≡ while_turns left t test body k g
without_step zero t test body f k g = refl
without_step (suc more) t test body f k g =
    ap (λ r. test t (body t (in_loop k r.0) r.1).0 k.next (body t (in_loop k r.0) r.1).1) (without_step more (t + 1) test body f k g)

-- One turn more, in front of those that are made.

pub turn_before : (d t at b new : ℕ) (test : ℕ → ℕ → ℕ → Build ℕ) (body : ℕ → Piece) (k : Targets) (entry rest made after : Growing)
    → 0 < t → t ≤ d → (at, rest) ≡ while_turns (d - t) t test body k entry
    → (b, made) ≡ body (t - 1) (in_loop k at) rest → (new, after) ≡ test (t - 1) b k.next made
    → (new, after) ≡ while_turns (d - (t - 1)) (t - 1) test body k entry
turn_before d t at b new test body k entry rest made after low high others inner first =
    first
    ∙ (ap (λ r. test (t - 1) r.0 k.next r.1) inner
    ∙ (ap (λ r. test (t - 1) (body (t - 1) (in_loop k r.0) r.1).0 k.next (body (t - 1) (in_loop k r.0) r.1).1) others
    ∙ sym (turn_more d t test body k entry low high)))

pub do_before : (d t at c new : ℕ) (test : ℕ → ℕ → ℕ → Build ℕ) (body : ℕ → Piece) (k : Targets) (entry rest made after : Growing)
    → 0 < t → t ≤ d → (at, rest) ≡ do_turns (d - t) t test body k entry
    → (c, made) ≡ test (t - 1) at k.next rest → (new, after) ≡ body (t - 1) (in_loop k c) made
    → (new, after) ≡ do_turns (d - (t - 1)) (t - 1) test body k entry
do_before d t at c new test body k entry rest made after low high others inner first =
    first
    ∙ (ap (λ r. body (t - 1) (in_loop k r.0) r.1) inner
    ∙ (ap (λ r. body (t - 1) (in_loop k (test (t - 1) r.0 k.next r.1).0) (test (t - 1) r.0 k.next r.1).1) others
    ∙ sym (do_more d t test body k entry low high)))

-- a body with its step behind it
pub step_behind : (body : Piece) (step : ℕ → Build ℕ) (k : Targets) (again b : ℕ) (rest made after : Growing)
    → (again, made) ≡ step k.next rest → (b, after) ≡ body (record k { next = again; again = again }) made
    → (b, after) ≡ with_step body step k rest
step_behind body step k again b rest made after stepped first =
    first ∙ ap (λ r. body (record k { next = r.0; again = r.0 }) r.1) stepped

-- The statements themselves.
pub stm_while : (structs : List Struct) (e : TExpr) (x : TStmt) (p : Pos)
    → stm structs (variant.While e x p) ≡ While p (exp structs e) (stm structs x)
stm_while structs e x p =
    ap (stm structs) (sym (variant.rolls-While e x p)) ∙ fold-roll-TStmt Stm (stm_step structs) (TStmt-F.While e x p)

pub stm_do : (structs : List Struct) (x : TStmt) (e : TExpr) (p : Pos)
    → stm structs (variant.Do x e p) ≡ Do p (stm structs x) (exp structs e)
stm_do structs x e p =
    ap (stm structs) (sym (variant.rolls-Do x e p)) ∙ fold-roll-TStmt Stm (stm_step structs) (TStmt-F.Do x e p)

pub stm_for : (structs : List Struct) (f : TForStart) (c n : Option TExpr) (x : TStmt) (p : Pos)
    → stm structs (variant.For f c n x p) ≡ For p (start_of structs f) (exp_if structs c) (exp_if structs n) (stm structs x)
stm_for structs f c n x p =
    ap (stm structs) (sym (variant.rolls-For f c n x p)) ∙ fold-roll-TStmt Stm (stm_step structs) (TStmt-F.For f c n x p)

pub stm_label : (structs : List Struct) (n : NameId) (x : TStmt) (p : Pos)
    → stm structs (variant.Label n x p) ≡ Label n (stm structs x)
stm_label structs n x p =
    ap (stm structs) (sym (variant.rolls-Label n x p)) ∙ fold-roll-TStmt Stm (stm_step structs) (TStmt-F.Label n x p)

pub while_is : (depth turn : ℕ) (x : Stm) (p : Pos) (e : Exp) (b : Stm) (k : Targets) (g : Growing) → x ≡ While p e b
    → steps.turns depth (Some e) None b turn p k g ≡ unroll_stm depth x turn k g
while_is depth turn x p e b k g h =
    without_step depth 0 (λ t. tested (unroll e (turn_of turn (depth + 1) t)) p what.Loop) (λ t. unroll_stm depth b (turn_of turn depth t))
    (turn_of turn depth) k g
    ∙ ap (λ y. unroll_stm depth y turn k g) (sym h)

pub do_is : (depth turn : ℕ) (x : Stm) (p : Pos) (b : Stm) (e : Exp) (k : Targets) (g : Growing) → x ≡ Do p b e
    → steps.do_turns depth e b turn p k g ≡ unroll_stm depth x turn k g
do_is depth turn x p b e k g h = ap (λ y. unroll_stm depth y turn k g) (sym h)

pub for_is : (depth turn : ℕ) (x : Stm) (p : Pos) (f : Start) (c n : Option Exp) (b : Stm) (k : Targets) (g made : Growing) (at : ℕ)
    → x ≡ For p f c n b → (at, made) ≡ steps.turns depth c n b turn p k g → started f turn at made ≡ unroll_stm depth x turn k g
for_is depth turn x p f c n b k g made at h loop =
    ap (λ r. started f turn r.0 r.1) loop ∙ ap (λ y. unroll_stm depth y turn k g) (sym h)
