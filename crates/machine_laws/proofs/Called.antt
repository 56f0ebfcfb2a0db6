-- The call graph and the verdicts of a program, with the machine of locks given by a file and without a file.
use Rattle.std.proofs.Common.{◌≡◌, ℕ, List, [], ◌∷◌, ◌++◌, refl}
use Rattle.std.specs.Prelude.{true, false, Option, Some, None, map, filter, slice_get}
use Rattle.fsm_spec.specs.Table.{find_in}
use Rattle.sum_rows.specs.declared.report.Verdict.{Verdict}
use Rattle.sc_typed.specs.declared.program.Program.{Program}
use Rattle.sc_typed.specs.declared.program.Function.{Function}
use Rattle.sc_world.specs.Tree.{Exp, Comma, Assign, Cond, Binary, Cast, Unary, PreInc, PostInc, SizeofExpr, SizeofType, Index, Call, Field, Param, Local, Global, Function as Named, Number, Str, Convert, Temp, TempPlace, Exps, NoExps, Exps', Given, Init, NoInit, One, Braces, Dec, Start, NoStart, Begin, Declare, Stm, Block, Decl, Evaluate, If, IfElse, While, Do, For, Switch, Case, Default, Goto, Break, Continue, Return, Label, Stms, NoStms, Stms'}
use Rattle.sc_world.specs.Source.{Source, or_else, operation_if, built_in, text_of}
use Rattle.sc_world.specs.Programs.{source, source_by}
use Rattle.plan_core.specs.Graph.{kept_callees}
use Rattle.program_verdicts.specs.CallGraph.{unless_built_in, called, in_exp, in_exps, in_exp_if, in_items, in_init, in_declarators, in_start, in_stm, in_stms, own_source, calls_body, functions, row, rows}
use Rattle.program_verdicts.specs.Outputs.{output}
use Rattle.program_verdicts.specs.Verdicts.{verdict_by, verdict_given, verdict_in, verdicts, kept_of, no_verdict, steps, texts, unless_skipped}
use Rattle.machine_laws.specs.Tries.{IsNoTry, CallsNoTry, AllCallNoTry, CallsNoTryIf, ItemsCallNoTry, InitCallsNoTry, DeclaratorsCallNoTry, StartCallsNoTry, StatementCallsNoTry, StatementsCallNoTry, ProgramCallsNoTry, with_file, without_file}
use Rattle.machine_laws.proofs.Names.{with_tries}
use Rattle.machine_laws.proofs.Judged.{verdict_same}

module _ (s : Source) where
  abbrev one : Source
  one = with_tries s true

  abbrev other : Source
  other = with_tries s false

  called_same : (f : Exp) → IsNoTry s.names f → called one f ≡ called other f
  called_same (Named n (Some g) t) h = λ i. unless_built_in
      (or_else (operation_if (find_in s.machine (text_of s n))) (or_else (h i) (built_in (text_of s n)))) g
  called_same _ h = refl

  mutual
    in_exp_same : (e : Exp) → CallsNoTry s.names e → in_exp one e ≡ in_exp other e
    in_exp_same (Comma a b t) c = λ i. in_exp_same a c.0 i ++ in_exp_same b c.1 i
    in_exp_same (Assign o w a b t) c = λ i. in_exp_same a c.0 i ++ in_exp_same b c.1 i
    in_exp_same (Cond a b d t) c = λ i. in_exp_same a c.0 i ++ (in_exp_same b c.1 i ++ in_exp_same d c.2 i)
    in_exp_same (Binary o a b t) c = λ i. in_exp_same a c.0 i ++ in_exp_same b c.1 i
    in_exp_same (Cast a t) c = in_exp_same a c
    in_exp_same (Unary o a t) c = in_exp_same a c
    in_exp_same (PreInc d a t) c = in_exp_same a c
    in_exp_same (PostInc d a t) c = in_exp_same a c
    in_exp_same (SizeofExpr a n t) c = in_exp_same a c
    in_exp_same (SizeofType n t) c = refl
    in_exp_same (Index a b t) c = λ i. in_exp_same a c.0 i ++ in_exp_same b c.1 i
    in_exp_same (Call p f es t) c = λ i. in_exp_same f c.1 i ++ (in_exps_same es c.2 i ++ called_same f c.0 i)
    in_exp_same (Field a n arrow t) c = in_exp_same a c
    in_exp_same (Param n t) c = refl
    in_exp_same (Local n t) c = refl
    in_exp_same (Global n t) c = refl
    in_exp_same (Named n b t) c = refl
    in_exp_same (Number n t) c = refl
    in_exp_same (Str p t) c = refl
    in_exp_same (Convert a t) c = in_exp_same a c
    in_exp_same (Temp n t) c = refl
    in_exp_same (TempPlace n t) c = refl

    in_exps_same : (es : Exps) → AllCallNoTry s.names es → in_exps one es ≡ in_exps other es
    in_exps_same NoExps c = refl
    in_exps_same (Exps' e es) c = λ i. in_exp_same e c.0 i ++ in_exps_same es c.1 i

  in_exp_if_same : (e : Option Exp) → CallsNoTryIf s.names e → in_exp_if one e ≡ in_exp_if other e
  in_exp_if_same None c = refl
  in_exp_if_same (Some e) c = in_exp_same e c

  in_items_same : (xs : List Given) → ItemsCallNoTry s.names xs → in_items one xs ≡ in_items other xs
  in_items_same [] c = refl
  in_items_same (x ∷ xs) c = λ i. in_exp_same x.value c.0 i ++ in_items_same xs c.1 i

  in_init_same : (x : Init) → InitCallsNoTry s.names x → in_init one x ≡ in_init other x
  in_init_same NoInit c = refl
  in_init_same (One e) c = in_exp_same e c
  in_init_same (Braces xs) c = in_items_same xs c

  in_declarators_same : (ds : List Dec) → DeclaratorsCallNoTry s.names ds → in_declarators one ds ≡ in_declarators other ds
  in_declarators_same [] c = refl
  in_declarators_same (d ∷ ds) c = λ i. in_init_same d.init c.0 i ++ in_declarators_same ds c.1 i

  in_start_same : (x : Start) → StartCallsNoTry s.names x → in_start one x ≡ in_start other x
  in_start_same NoStart c = refl
  in_start_same (Begin e) c = in_exp_same e c
  in_start_same (Declare ds) c = in_declarators_same ds c

  mutual
    in_stm_same : (x : Stm) → StatementCallsNoTry s.names x → in_stm one x ≡ in_stm other x
    in_stm_same (Block xs end) c = in_stms_same xs c
    in_stm_same (Decl ds) c = in_declarators_same ds c
    in_stm_same (Evaluate e) c = in_exp_if_same e c
    in_stm_same (If p e x) c = λ i. in_exp_same e c.0 i ++ in_stm_same x c.1 i
    in_stm_same (IfElse p e x y) c = λ i. in_exp_same e c.0 i ++ (in_stm_same x c.1 i ++ in_stm_same y c.2 i)
    in_stm_same (While p e x) c = λ i. in_exp_same e c.0 i ++ in_stm_same x c.1 i
    in_stm_same (Do p x e) c = λ i. in_stm_same x c.0 i ++ in_exp_same e c.1 i
    in_stm_same (For p f d n x) c = λ i.
        in_start_same f c.0 i ++ (in_exp_if_same d c.1 i ++ (in_exp_if_same n c.2 i ++ in_stm_same x c.3 i))
    in_stm_same (Switch p e xs) c = λ i. in_exp_same e c.0 i ++ in_stms_same xs c.1 i
    in_stm_same (Case n e) c = in_exp_same e c
    in_stm_same Default c = refl
    in_stm_same (Goto p n) c = refl
    in_stm_same Break c = refl
    in_stm_same Continue c = refl
    in_stm_same (Return p e) c = in_exp_if_same e c
    in_stm_same (Label n x) c = in_stm_same x c

    in_stms_same : (xs : Stms) → StatementsCallNoTry s.names xs → in_stms one xs ≡ in_stms other xs
    in_stms_same NoStms c = refl
    in_stms_same (Stms' x xs) c = λ i. in_stm_same x c.0 i ++ in_stms_same xs c.1 i

-- Programs.

module _ (p : Program) (c : ProgramCallsNoTry p) where
  row_same : (f : ℕ) → row (without_file p) f ≡ row (with_file p) f
  unfolding source_by
  row_same f = λ i. filter (calls_body (in_stm_same (own_source (without_file p) f) (own_source p f).body (c f) i)) (functions p)

  pub rows_same : rows (without_file p) ≡ rows (with_file p)
  rows_same = λ i. map (λ f. row_same f i) (functions p)

  kept_same : (f : ℕ) → kept_of (without_file p) f ≡ kept_of (with_file p) f
  kept_same f = λ i. kept_callees (rows_same i) f

  by_same : (depth reach f : ℕ) (kept : List ℕ) (vs : List Verdict) (g : Option Function)
      → verdict_by (without_file p) depth reach f kept vs g ≡ verdict_by (with_file p) depth reach f kept vs g
  unfolding source_by
  by_same depth reach f kept vs None = refl
  by_same depth reach f kept vs (Some g) = λ i.
      unless_skipped g.body (verdict_same (source (without_file p) f kept vs depth reach) (texts p g) (c f) i)

  given_same : (depth reach f : ℕ) (kept : List ℕ) (vs : List Verdict)
      → verdict_given (without_file p) depth reach f kept vs ≡ verdict_given (with_file p) depth reach f kept vs
  given_same depth reach f kept vs = by_same depth reach f kept vs (slice_get p.functions f)

  in_same : (depth reach f : ℕ) → verdict_in (without_file p) depth reach f ≡ verdict_in (with_file p) depth reach f
  in_same depth reach f = λ i.
      output (λ g vs. given_same depth reach g (kept_same g i) vs i) no_verdict (λ g. kept_same g i) (steps p) f

  pub verdicts_same : (depth reach : ℕ) → verdicts (without_file p) depth reach ≡ verdicts (with_file p) depth reach
  verdicts_same depth reach = λ i. map (λ f. in_same depth reach f i) (functions p)
