-- Statements, and whole runs.
use Rattle.std.proofs.Common.{ℕ, zero, suc, ◌+◌, Bool, true, false, List, [], ◌∷◌}
use Rattle.std.specs.Prelude.{Option, Some, None, Result, Ok, Err}
use Rattle.sc_base.specs.declared.pos.Pos.{Pos}
use Rattle.sc_typed.specs.declared.stmt.Declared.{Declared}
use Rattle.sc_typed.specs.declared.stmt.Declared.TheVariants as declared
use Rattle.run_store.specs.Concrete.{Cell, Nothing, blank}
use Rattle.sum_rows.specs.declared.report.What.{What}
use Rattle.sum_rows.specs.declared.report.What.TheVariants as what
use Rattle.sc_world.specs.declared.run.Origin.TheVariants as origin
use Rattle.sc_world.specs.Tree.{Exp, type_of, Given, Init, NoInit, One, Braces, Dec, Start, NoStart, Begin, Declare, Stm, Block, Decl, Evaluate, If, IfElse, While, Do, For, Switch, Case, Default, Goto, Break, Continue, Return, Label, Stms, NoStms, Stms'}
use Rattle.sc_world.specs.Source.{Source}
use Rattle.sc_world.specs.Layout.{Layout, location, location_of}
use Rattle.sc_world.specs.World.{World, Ended, Run, ◌>>=◌, Env, is_true, number_of, kind_of_type, entry_world}
use Rattle.sc_world.specs.Eval.{Value, Place', place_of, cells_of}
use Rattle.sc_world.specs.Exec.{Flow, Next, Breaks, Continues, GoesTo, Returns, Seek, Here, AtLabel, found, left, goes_on_in, chosen_item, out_of_switch, in_turn, condition, after_turn, turns, again, do_turns, part_at, is_scalar, cells_given, all_given, clear, set_part, set_parts, initialise, declared_as, declarators, evaluate_if, begin, condition_if, switch_event, with_step, return_value, switch_by, exec, exec_all, end_of, result_or, finished, env_of, run}
use Rattle.error_laws.specs.Errors.{IsErrorOf}
use Rattle.error_laws.proofs.Steps.{Whatever, After, Leads, chain, gives, stops, either, stores, tells}
use Rattle.error_laws.proofs.Calls.{MayErr}
use Rattle.error_laws.proofs.Expressions.{loads_all, stores_all, copies, evaluates}

-- the steps of a layout
abbrev Goes : {A : Type 0} → Layout → Run A → Type 0
Goes p m = Leads p Whatever m

-- Conditions.

asks : (q : Pos) (x : Bool → What) (e : Exp) (env : Env) → MayErr env.source env.layout → Goes env.layout (condition q x e env)
asks q x e env may = chain env.layout (evaluates env may e Value) (λ v _. chain env.layout (tells env.layout q (x (is_true v))) (λ _ _. gives env.layout {a = is_true v} tt))

asks_if : (q : Pos) (e : Option Exp) (env : Env) → MayErr env.source env.layout → Goes env.layout (condition_if q e env)
asks_if q None env may = chain env.layout (tells env.layout q (what.Loop true)) (λ _ _. gives env.layout {a = true} tt)
asks_if q (Some e) env may = asks q what.Loop e env may

-- Initialisers.

cells : (e : Exp) (env : Env) → MayErr env.source env.layout → Goes env.layout (cells_given e env)
cells e env may =
    either env.layout (is_scalar (type_of e)) (chain env.layout (evaluates env may e Value) (λ v _. gives env.layout {a = v ∷ []} tt))
    (chain env.layout (evaluates env may e Place') (λ q _. loads_all env (cells_of env.layout (place_of q))))

all_cells : (xs : List Given) (env : Env) → MayErr env.source env.layout → Goes env.layout (all_given xs env)
all_cells [] env may = gives env.layout {a = []} tt
all_cells (x ∷ xs) env may =
    chain env.layout (cells x.value env may) (λ c _. chain env.layout (all_cells xs env may) (λ cs _. gives env.layout {a = c ∷ cs} tt))

clears : (env : Env) (ks : List ℕ) → Goes env.layout (clear env ks)
clears env [] = gives env.layout tt
clears env (k ∷ ks) = chain env.layout (stores env.layout k (blank (kind_of_type env.source (location env.layout k).type))) (λ _ _. clears env ks)

sets_part : (env : Env) (o : Option ℕ) (cs : List Cell) → Goes env.layout (set_part env o cs)
sets_part env None cs = gives env.layout tt
sets_part env (Some at) cs = stores_all env (cells_of env.layout at) cs

sets_parts : (env : Env) (at : ℕ) (xs : List Given) (cs : List (List Cell)) → Goes env.layout (set_parts env at xs cs)
sets_parts env at [] cs = gives env.layout tt
sets_parts env at (x ∷ xs) [] = gives env.layout tt
sets_parts env at (x ∷ xs) (c ∷ cs) = chain env.layout (sets_part env (part_at env at x.way) c) (λ _ _. sets_parts env at xs cs)

initialises : (at : ℕ) (x : Init) (env : Env) → MayErr env.source env.layout → Goes env.layout (initialise at x env)
initialises at NoInit env may = gives env.layout tt
initialises at (One e) env may =
    either env.layout (is_scalar (type_of e)) (chain env.layout (evaluates env may e Value) (λ v _. stores env.layout at v))
    (chain env.layout (evaluates env may e Place') (λ q _. copies env (place_of q) at))
initialises at (Braces xs) env may =
    chain env.layout (all_cells xs env may)
    (λ cs _. chain env.layout (clears env (cells_of env.layout at)) (λ _ _. sets_parts env at xs cs))

declares_as : (d : Declared) (x : Init) (env : Env) → MayErr env.source env.layout → Goes env.layout (declared_as d x env)
declares_as (declared.Local n) x env may = initialises (location_of env.layout (origin.Local n)) x env may
declares_as (declared.Global n) x env may = gives env.layout tt
declares_as declared.Function x env may = gives env.layout tt

declares : (ds : List Dec) (env : Env) → MayErr env.source env.layout → Goes env.layout (declarators ds env)
declares [] env may = gives env.layout tt
declares (d ∷ ds) env may = chain env.layout (declares_as d.declared d.init env may) (λ _ _. declares ds env may)

evaluates_if : (e : Option Exp) (env : Env) → MayErr env.source env.layout → Goes env.layout (evaluate_if e env)
evaluates_if None env may = gives env.layout tt
evaluates_if (Some e) env may = chain env.layout (evaluates env may e Value) (λ _ _. gives env.layout tt)

begins : (x : Start) (env : Env) → MayErr env.source env.layout → Goes env.layout (begin x env)
begins NoStart env may = gives env.layout tt
begins (Begin e) env may = evaluates_if (Some e) env may
begins (Declare ds) env may = declares ds env may

-- Loops.

module _ (p : Layout) where
  behind_turn : (f : Flow) (more : Run Flow) → Goes p more → Goes p (after_turn f more)
  behind_turn Next more l = l
  behind_turn Continues more l = l
  behind_turn Breaks more l = gives p {a = Next} tt
  behind_turn (GoesTo n) more l = gives p {a = GoesTo n} tt
  behind_turn (Returns c) more l = gives p {a = Returns c} tt

  takes_turns : (k t : ℕ) (test : ℕ → Run Bool) (body : ℕ → Run Flow) → ((n : ℕ) → Goes p (test n)) → ((n : ℕ) → Goes p (body n))
      → Goes p (turns k t test body)
  takes_turns zero t test body ht hb = chain p (ht t) (λ b _. either p b (stops p) (gives p {a = Next} tt))
  takes_turns (suc more) t test body ht hb =
      chain p (ht t)
      (λ b _. either p b
      (chain p (hb t) (λ f _. behind_turn f (turns more (t + 1) test body) (takes_turns more (t + 1) test body ht hb)))
      (gives p {a = Next} tt))

  goes_again : (b : Bool) (k : ℕ) (more : Run Flow) → Goes p more → Goes p (again b k more)
  goes_again false k more l = gives p {a = Next} tt
  goes_again true zero more l = stops p
  goes_again true (suc k) more l = l

  takes_do_turns : (k t : ℕ) (test : ℕ → Run Bool) (body : ℕ → Run Flow) → ((n : ℕ) → Goes p (test n)) → ((n : ℕ) → Goes p (body n))
      → Goes p (do_turns k t test body)
  takes_do_turns zero t test body ht hb = stops p
  takes_do_turns (suc more) t test body ht hb =
      chain p (hb t)
      (λ f _. behind_turn f (test t >>= λ b. again b more (do_turns more (t + 1) test body))
      (chain p (ht t) (λ b _. goes_again b more (do_turns more (t + 1) test body) (takes_do_turns more (t + 1) test body ht hb))))

  switches : (o : Option Seek) (items : Seek → Run Flow) → ((k : Seek) → Goes p (items k)) → Goes p (switch_by o items)
  switches None items l = gives p {a = Next} tt
  switches (Some k) items l = chain p (l k) (λ f _. gives p {a = out_of_switch f} tt)

  goes_in : (f : Flow) (rest : Seek → Run Flow) → ((k : Seek) → Goes p (rest k)) → Goes p (goes_on_in f rest)
  goes_in Next rest l = l Here
  goes_in (GoesTo n) rest l = l (AtLabel n)
  goes_in Breaks rest l = gives p {a = Breaks} tt
  goes_in Continues rest l = gives p {a = Continues} tt
  goes_in (Returns c) rest l = gives p {a = Returns c} tt

steps_behind : (n : Option Exp) (env : Env) (f : Flow) → MayErr env.source env.layout → Goes env.layout (with_step n env f)
steps_behind n env Next may = chain env.layout (evaluates_if n env may) (λ _ _. gives env.layout {a = Next} tt)
steps_behind n env Continues may = chain env.layout (evaluates_if n env may) (λ _ _. gives env.layout {a = Next} tt)
steps_behind n env Breaks may = gives env.layout {a = Breaks} tt
steps_behind n env (GoesTo m) may = gives env.layout {a = GoesTo m} tt
steps_behind n env (Returns c) may = gives env.layout {a = Returns c} tt

returns : (q : Pos) (e : Option Exp) (env : Env) → MayErr env.source env.layout → Goes env.layout (return_value q e env)
returns q None env may = chain env.layout (tells env.layout q what.Return) (λ _ _. gives env.layout {a = Returns Nothing} tt)
returns q (Some e) env may =
    chain env.layout (evaluates env may e Value)
    (λ v _. chain env.layout (tells env.layout q what.Return) (λ _ _. gives env.layout {a = Returns v} tt))

-- Statements.

mutual
  executes : (x : Stm) (env : Env) → MayErr env.source env.layout → Goes env.layout (exec x env)
  executes (Block xs end) env may = executes_all xs Here env may
  executes (Decl ds) env may = chain env.layout (declares ds env may) (λ _ _. gives env.layout {a = Next} tt)
  executes (Evaluate e) env may = chain env.layout (evaluates_if e env may) (λ _ _. gives env.layout {a = Next} tt)
  executes (If q e x) env may =
      chain env.layout (asks q what.If e env may) (λ b _. either env.layout b (executes x env may) (gives env.layout {a = Next} tt))
  executes (IfElse q e x y) env may =
      chain env.layout (asks q what.If e env may) (λ b _. either env.layout b (executes x env may) (executes y env may))
  executes (While q e x) env may =
      takes_turns env.layout env.source.depth 0
      (λ n. condition q what.Loop e (in_turn env (env.source.depth + 1) n)) (λ n. exec x (in_turn env env.source.depth n))
      (λ n. asks q what.Loop e (in_turn env (env.source.depth + 1) n) may) (λ n. executes x (in_turn env env.source.depth n) may)
  executes (Do q x e) env may =
      takes_do_turns env.layout env.source.depth 0
      (λ n. condition q what.Loop e (in_turn env env.source.depth n)) (λ n. exec x (in_turn env env.source.depth n))
      (λ n. asks q what.Loop e (in_turn env env.source.depth n) may) (λ n. executes x (in_turn env env.source.depth n) may)
  executes (For q f c n x) env may =
      chain env.layout (begins f env may)
      (λ _ _. takes_turns env.layout env.source.depth 0
      (λ k. condition_if q c (in_turn env (env.source.depth + 1) k))
      (λ k. exec x (in_turn env env.source.depth k) >>= λ y. with_step n (in_turn env env.source.depth k) y)
      (λ k. asks_if q c (in_turn env (env.source.depth + 1) k) may)
      (λ k. chain env.layout (executes x (in_turn env env.source.depth k) may)
      (λ y _. steps_behind n (in_turn env env.source.depth k) y may)))
  executes (Switch q e xs) env may =
      chain env.layout (evaluates env may e Value)
      (λ v _. chain env.layout (tells env.layout q (switch_event env (type_of e) v))
      (λ _ _. switches env.layout (chosen_item (number_of v) xs) (λ k. exec_all xs k env) (λ k. executes_all xs k env may)))
  executes (Case n e) env may = gives env.layout {a = Next} tt
  executes Default env may = gives env.layout {a = Next} tt
  executes (Goto q n) env may = chain env.layout (tells env.layout q (what.Goto n)) (λ _ _. gives env.layout {a = GoesTo n} tt)
  executes Break env may = gives env.layout {a = Breaks} tt
  executes Continue env may = gives env.layout {a = Continues} tt
  executes (Return q e) env may = returns q e env may
  executes (Label n x) env may = executes x env may

  executes_all : (xs : Stms) (k : Seek) (env : Env) → MayErr env.source env.layout → Goes env.layout (exec_all xs k env)
  executes_all NoStms k env may = gives env.layout {a = left k} tt
  executes_all (Stms' x rest) k env may =
      either env.layout (found k x)
      (chain env.layout (executes x env may)
      (λ f _. goes_in env.layout f (λ again. exec_all rest again env) (λ again. executes_all rest again env may)))
      (executes_all rest k env may)

-- Runs.

falls_off : (s : Source) (p : Layout) → Goes p (finished s Next)
falls_off s p = chain p (tells p (end_of s.body) what.End) (λ _ _. gives p {a = result_or s Nothing} tt)

finishes : (s : Source) (p : Layout) (f : Flow) → Goes p (finished s f)
finishes s p (Returns c) = gives p {a = result_or s c} tt
finishes s p Next = falls_off s p
finishes s p Breaks = falls_off s p
finishes s p Continues = falls_off s p
finishes s p (GoesTo n) = falls_off s p

error_of : (p : Layout) (r : Result Cell Ended × World) → After p Whatever r → IsErrorOf p r.0
error_of p (Ok c, w) h = tt
error_of p (Err e, w) h = h

pub runs : (s : Source) (p : Layout) (bits : List Bool) → MayErr s p → IsErrorOf p (run s p bits).0
runs s p bits may =
    error_of p (run s p bits)
    ((chain p (executes s.body (env_of s p bits) may) (λ f _. finishes s p f)).by (entry_world s p bits))
