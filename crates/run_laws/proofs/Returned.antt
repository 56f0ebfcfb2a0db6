-- Functions that fit give values of the type of their result.
use Rattle.std.proofs.Common.{◌≡◌, ℕ, ◌≤◌, Bool, true, false, ◌||◌, List, length, refl, subst, ◌∙◌}
use Rattle.std.proofs.lemmas.Bool.{true≢false}
use Rattle.std.specs.Prelude.{Option, Some, None, slice_index_or}
use Rattle.sc_base.specs.declared.pos.Pos.{Pos}
use Rattle.fsm_spec.specs.Table.{IsWhole}
use Rattle.run_store.specs.Concrete.{Cell, Number, Pointer, Nothing, blank}
use Rattle.sc_world.specs.Tree.{Ty, is_integer, is_pointer, is_void, Exp, Stm, Block, Decl, Evaluate, If, IfElse, While, Do, For, Switch, Case, Default, Goto, Break, Continue, Return, Label, Stms, NoStms, Stms'}
use Rattle.sc_world.specs.Source.{Source}
use Rattle.sc_world.specs.Layout.{Layout}
use Rattle.sc_world.specs.World.{World, ◌>>=◌, target_of, kind_of_type}
use Rattle.sc_world.specs.Eval.{Value}
use Rattle.sc_world.specs.Exec.{exec, finished, result_or}
use Rattle.run_laws.specs.Proper.{IsClosed, IsProper}
use Rattle.run_laws.specs.Fits.{IsValueOf, is_scalar, may_give}
use Rattle.run_laws.specs.Functions.{ReturnFits, StatementFits, StatementsFit, FunctionFits}
use Rattle.run_laws.proofs.Steps.{Leads, weaker}
use Rattle.run_laws.proofs.Values.{tree}
use Rattle.run_laws.proofs.Statements.{GivesIf, returns, Gives, AllGive, runs}
use Rattle.run_laws.proofs.Stores.{proper_rules}
use Rattle.run_laws.proofs.Entry.{blank_kind}
use Rattle.run_laws.proofs.Types.{own_kind_of, value_void}
use Rattle.run_laws.proofs.Typed.{typed}

-- 0, null or nothing is a value of the type
blank_value_as : (s : Source) (t : Ty) (b : Bool) → is_scalar t ≡ b → may_give t ≡ true → IsValueOf s t (blank (kind_of_type s (Some t)))
blank_value_as s t true e h = record { kind = λ _. blank_kind (kind_of_type s (Some t)) ∙ own_kind_of s t e }
blank_value_as s t false e h =
    value_void s t (may_be_void (is_integer t) (is_pointer t) (is_void t) e h) (blank (kind_of_type s (Some t)))
  where
    may_be_void : (a b c : Bool) → a || b ≡ false → a || (b || c) ≡ true → c ≡ true
    may_be_void true b c e h = absurd (true≢false e)
    may_be_void false true c e h = absurd (true≢false e)
    may_be_void false false c e h = h

module _ (s : Source) (p : Layout) (choice : List Bool) (temps : List Cell) (whole : IsWhole s.machine) (closed : IsClosed p) (temps_inside : (k : ℕ) → target_of (slice_index_or temps k Nothing) ≤ length p.locations) (gives_value : may_give s.result ≡ true) where
  abbrev P : World → Type 0
  P = IsProper s p

  abbrev Result : Cell → Type 0
  Result c = IsValueOf s s.result (result_or s c)

  nothing_result : Result Nothing
  nothing_result = blank_value_as s s.result (is_scalar s.result) refl gives_value

  value_result : (c : Cell) → IsValueOf s s.result c → Result c
  value_result Nothing h = nothing_result
  value_result (Number w n) h = h
  value_result (Pointer q) h = h

  abbrev Good : Stm → Type 0
  Good x = Gives s p choice temps P (proper_rules s p temps whole closed temps_inside) Result x

  return_value : (e : Option Exp) (t : ℕ) → ReturnFits s p e
      → GivesIf s p choice temps P (proper_rules s p temps whole closed temps_inside) Result e t
  return_value None t fits = tt
  return_value (Some e) t fits =
      weaker P (λ c h. value_result c (subst (λ y. IsValueOf s y c) fits.1 h))
      (typed s p choice temps whole closed temps_inside e Value t fits.0)

  return_good : (q : Pos) (e : Option Exp) → ReturnFits s p e → Good (Return q e)
  return_good q e fits = λ t.
      returns s p choice temps P (proper_rules s p temps whole closed temps_inside) Result q e t nothing_result (return_value e t fits)

  mutual
    good : (x : Stm) → StatementFits s p x → Good x
    good (Block xs end) fits = all_good xs fits
    good (If q e x) fits = good x fits.1
    good (IfElse q e x y) fits = (good x fits.1, good y fits.2)
    good (While q e x) fits = good x fits.1
    good (Do q x e) fits = good x fits.0
    good (For q f c n x) fits = good x fits.3
    good (Switch q e xs) fits = all_good xs fits.2
    good (Return q e) fits = return_good q e fits
    good (Label n x) fits = good x fits
    good (Decl ds) fits = tt
    good (Evaluate e) fits = tt
    good (Case n e) fits = tt
    good Default fits = tt
    good (Goto q n) fits = tt
    good Break fits = tt
    good Continue fits = tt

    all_good : (xs : Stms) → StatementsFit s p xs
        → AllGive s p choice temps P (proper_rules s p temps whole closed temps_inside) Result xs
    all_good NoStms fits = tt
    all_good (Stms' x xs) fits = (good x fits.0, all_good xs fits.1)

  pub runs_typed : FunctionFits s p
      → Leads P (IsValueOf s s.result)
      (exec s.body (tree s p choice temps P (proper_rules s p temps whole closed temps_inside) 0) >>= finished s)
  runs_typed fits =
      runs s p choice temps P (proper_rules s p temps whole closed temps_inside) Result (IsValueOf s s.result) nothing_result
      (λ c h. h) (good s.body fits.body)
