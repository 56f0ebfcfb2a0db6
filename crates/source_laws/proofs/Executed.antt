-- Statements and runs, with names that come later and without them, in one layout.
use Rattle.std.proofs.Common.{◌≡◌, ℕ, ◌+◌, ◌*◌, List, [], ◌∷◌, refl}
use Rattle.std.specs.Prelude.{Bool, Option, Some, None, if◌then◌else◌}
use Rattle.sc_base.specs.declared.pos.Pos.{Pos}
use Rattle.sc_typed.specs.declared.stmt.Declared.{Declared}
use Rattle.sc_typed.specs.declared.stmt.Declared.TheVariants as declared
use Rattle.sum_rows.specs.declared.report.What.{What}
use Rattle.sum_rows.specs.declared.report.What.TheVariants as what
use Rattle.sc_world.specs.declared.run.Origin.TheVariants as origin
use Rattle.sc_world.specs.Tree.{Exp, type_of, Given, Init, NoInit, One, Braces, Dec, Start, NoStart, Begin, Declare, Stm, Block, Decl, Evaluate, If, IfElse, While, Do, For, Switch, Case, Default, Goto, Break, Continue, Return, Label, Stms, NoStms, Stms'}
use Rattle.sc_world.specs.Source.{Source}
use Rattle.sc_world.specs.Layout.{Layout, location_of}
use Rattle.sc_world.specs.World.{◌>>=◌, done, Env, number_of, is_true, event, store, entry_world}
use Rattle.sc_world.specs.Eval.{Value, Place', copy, place_of, cells_of, load_all}
use Rattle.sc_world.specs.Exec.{Flow, Next, Breaks, Continues, GoesTo, Returns, Seek, Here, found, goes_on_in, chosen_item, condition, turns, do_turns, is_scalar, cells_given, all_given, clear, set_parts, initialise, declared_as, declarators, evaluate_if, begin, condition_if, switch_event, with_step, return_value, switch_by, exec, exec_all, finished, run}
use Rattle.source_laws.specs.Named.{Tables, with_tables}
use Rattle.source_laws.proofs.Evaluated.{there, eval_same}

module _ (old new : Tables) (s : Source) (p : Layout) (choice : List Bool) where
  abbrev one : ℕ → Env
  one t = there (with_tables s old) p choice [] t

  abbrev other : ℕ → Env
  other t = there (with_tables s new) p choice [] t

  condition_same : (at : Pos) (x : Bool → What) (e : Exp) (t : ℕ) → condition at x e (one t) ≡ condition at x e (other t)
  condition_same at x e t = λ i. do
    v ← eval_same old new s p choice [] t e Value i
    _ ← event at (x (is_true v))
    done (is_true v)

  cells_given_same : (e : Exp) (t : ℕ) → cells_given e (one t) ≡ cells_given e (other t)
  cells_given_same e t = λ i.
      if is_scalar (type_of e)
      then (eval_same old new s p choice [] t e Value i >>= λ v. done (v ∷ []))
      else (eval_same old new s p choice [] t e Place' i >>= λ q. load_all (cells_of p (place_of q)))

  all_given_same : (xs : List Given) (t : ℕ) → all_given xs (one t) ≡ all_given xs (other t)
  all_given_same [] t = refl
  all_given_same (x ∷ xs) t = λ i. do
    c ← cells_given_same x.value t i
    cs ← all_given_same xs t i
    done (c ∷ cs)

  initialise_same : (at : ℕ) (x : Init) (t : ℕ) → initialise at x (one t) ≡ initialise at x (other t)
  initialise_same at NoInit t = refl
  initialise_same at (One e) t = λ i.
      if is_scalar (type_of e)
      then (eval_same old new s p choice [] t e Value i >>= λ v. store at v)
      else (eval_same old new s p choice [] t e Place' i >>= λ q. copy (one t) (place_of q) at)
  initialise_same at (Braces xs) t = λ i. do
    cs ← all_given_same xs t i
    _ ← clear (one t) (cells_of p at)
    set_parts (one t) at xs cs

  declared_as_same : (d : Declared) (x : Init) (t : ℕ) → declared_as d x (one t) ≡ declared_as d x (other t)
  declared_as_same (declared.Local n) x t = initialise_same (location_of p (origin.Local n)) x t
  declared_as_same _ x t = refl

  declarators_same : (ds : List Dec) (t : ℕ) → declarators ds (one t) ≡ declarators ds (other t)
  declarators_same [] t = refl
  declarators_same (d ∷ ds) t = λ i. do
    _ ← declared_as_same d.declared d.init t i
    declarators_same ds t i

  evaluate_if_same : (e : Option Exp) (t : ℕ) → evaluate_if e (one t) ≡ evaluate_if e (other t)
  evaluate_if_same None t = refl
  evaluate_if_same (Some e) t = λ i. eval_same old new s p choice [] t e Value i >>= λ v. done tt

  begin_same : (x : Start) (t : ℕ) → begin x (one t) ≡ begin x (other t)
  begin_same NoStart t = refl
  begin_same (Begin e) t = evaluate_if_same (Some e) t
  begin_same (Declare ds) t = declarators_same ds t

  condition_if_same : (at : Pos) (e : Option Exp) (t : ℕ) → condition_if at e (one t) ≡ condition_if at e (other t)
  condition_if_same at None t = refl
  condition_if_same at (Some e) t = condition_same at what.Loop e t

  with_step_same : (n : Option Exp) (t : ℕ) (f : Flow) → with_step n (one t) f ≡ with_step n (other t) f
  with_step_same n t Next = λ i. evaluate_if_same n t i >>= λ _. done Next
  with_step_same n t Continues = λ i. evaluate_if_same n t i >>= λ _. done Next
  with_step_same n t Breaks = refl
  with_step_same n t (GoesTo l) = refl
  with_step_same n t (Returns v) = refl

  return_value_same : (at : Pos) (e : Option Exp) (t : ℕ) → return_value at e (one t) ≡ return_value at e (other t)
  return_value_same at None t = refl
  return_value_same at (Some e) t = λ i. do
    v ← eval_same old new s p choice [] t e Value i
    _ ← event at what.Return
    done (Returns v)

  mutual
    exec_same : (x : Stm) (t : ℕ) → exec x (one t) ≡ exec x (other t)
    exec_same (Block xs end) t = exec_all_same xs Here t
    exec_same (Decl ds) t = λ i. declarators_same ds t i >>= λ _. done Next
    exec_same (Evaluate e) t = λ i. evaluate_if_same e t i >>= λ _. done Next
    exec_same (If at e x) t = λ i. do
      holds ← condition_same at what.If e t i
      if holds then exec_same x t i else done Next
    exec_same (IfElse at e x y) t = λ i. do
      holds ← condition_same at what.If e t i
      if holds then exec_same x t i else exec_same y t i
    exec_same (While at e x) t = λ i. turns s.depth 0
        (λ n. condition_same at what.Loop e (t * (s.depth + 1) + n) i)
        (λ n. exec_same x (t * s.depth + n) i)
    exec_same (Do at x e) t = λ i. do_turns s.depth 0
        (λ n. condition_same at what.Loop e (t * s.depth + n) i)
        (λ n. exec_same x (t * s.depth + n) i)
    exec_same (For at f c n x) t = λ i. do
      _ ← begin_same f t i
      turns s.depth 0
          (λ m. condition_if_same at c (t * (s.depth + 1) + m) i)
          (λ m. exec_same x (t * s.depth + m) i >>= λ g. with_step_same n (t * s.depth + m) g i)
    exec_same (Switch at e xs) t = λ i. do
      v ← eval_same old new s p choice [] t e Value i
      _ ← event at (switch_event (one t) (type_of e) v)
      switch_by (chosen_item (number_of v) xs) (λ seek. exec_all_same xs seek t i)
    exec_same (Case n e) t = refl
    exec_same Default t = refl
    exec_same (Goto at n) t = refl
    exec_same Break t = refl
    exec_same Continue t = refl
    exec_same (Return at e) t = return_value_same at e t
    exec_same (Label n x) t = exec_same x t

    exec_all_same : (xs : Stms) (seek : Seek) (t : ℕ) → exec_all xs seek (one t) ≡ exec_all xs seek (other t)
    exec_all_same NoStms seek t = refl
    exec_all_same (Stms' x rest) seek t = λ i.
        if found seek x
        then (exec_same x t i >>= λ f. goes_on_in f (λ again. exec_all_same rest again t i))
        else exec_all_same rest seek t i

  pub run_same : run (with_tables s old) p choice ≡ run (with_tables s new) p choice
  run_same = λ i. (exec_same s.body 0 i >>= finished s) (entry_world s p choice)
