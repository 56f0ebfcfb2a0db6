-- A function that passes the test fits its layout.
use Rattle.std.proofs.Common.{◌≡◌, ℕ, Bool, true, List, [], ◌∷◌, ◌&&◌, sym, ◌∙◌, subst}
use Rattle.std.specs.Prelude.{Option, Some, None}
use Rattle.std.proofs.lemmas.Bool.{and_parts}
use Rattle.sc_typed.specs.declared.stmt.Declared.{Declared}
use Rattle.sc_typed.specs.declared.stmt.Declared.TheVariants as declared
use Rattle.sc_world.specs.declared.run.Origin.TheVariants as origin
use Rattle.sc_world.specs.Tree.{Ty, is_integer, same_type, Exp, type_of, Given, Init, NoInit, One, Braces, Dec, Start, NoStart, Begin, Declare, Stm, Block, Decl, Evaluate, If, IfElse, While, Do, For, Switch, Case, Default, Goto, Break, Continue, Return, Label, Stms, NoStms, Stms'}
use Rattle.sc_world.specs.Source.{Source}
use Rattle.sc_world.specs.Layout.{Layout, location, location_of, has_type}
use Rattle.sc_world.specs.Eval.{Value}
use Rattle.sc_world.specs.Exec.{part_at, env_of}
use Rattle.run_laws.specs.Fits.{is_scalar, if_scalar, may_give}
use Rattle.run_laws.specs.Functions.{TestFits, TestFitsIf, FitsIf, SetsPart, ItemsFit, InitFits, DeclaredFits, DeclaratorsFit, StartFits, ReturnFits, StatementFits, StatementsFit, FunctionFits}
use Rattle.expr_fits.specs.Here as here
use Rattle.expr_fits.proofs.Same.{types_one}
use Rattle.function_fits.specs.Expressions as expressions
use Rattle.function_fits.specs.Functions as test
use Rattle.function_fits.proofs.Places.{there}
use Rattle.function_fits.proofs.Fitting.{fits}

module _ (s : Source) (p : Layout) where
  tested : (e : Exp) → test.test_fits p e ≡ true → TestFits s p e
  tested e h =
      let x = and_parts (expressions.fits p Value e) (is_scalar (type_of e)) h in
      (fits p Value e x.0, x.1)

  tested_if : (e : Option Exp) → test.test_fits_if p e ≡ true → TestFitsIf s p e
  tested_if None h = tt
  tested_if (Some e) h = tested e h

  dropped : (e : Option Exp) → test.fits_if p e ≡ true → FitsIf s p e
  dropped None h = tt
  dropped (Some e) h = fits p Value e h

  -- Initialisers.

  sets : (at : ℕ) (e : Exp) → test.sets_part p at e ≡ true → SetsPart s p at e
  sets at e h =
      let x = and_parts (test.value_fits p e) (has_type (location p at) (type_of e)) h in
      (fits p (if_scalar (type_of e)) e x.0, x.1)

  typed_if : (to : Option ℕ) (t : Ty) → test.has_type_if p to t ≡ true → (k : ℕ) → to ≡ Some k → has_type (location p k) t ≡ true
  typed_if None t h k e = absurd (cc)
  typed_if (Some at) t h k e =
      let same : at ≡ k = cc in
      subst (λ i. has_type (location p i) t ≡ true) same h

  items : (at : ℕ) (xs : List Given) → test.items_fit s p at xs ≡ true → ItemsFit s p at xs
  items at [] h = tt
  items at (x ∷ xs) h =
      let way = part_at (env_of s p []) at x.way in
      let y = and_parts (test.item_fits s p at x) (test.items_fit s p at xs) h in
      let z = and_parts (test.value_fits p x.value) (test.has_type_if p way (type_of x.value)) y.0 in
      (fits p (if_scalar (type_of x.value)) x.value z.0, typed_if way (type_of x.value) z.1, items at xs y.1)

  initialised : (at : ℕ) (x : Init) → test.init_fits s p at x ≡ true → InitFits s p at x
  initialised at NoInit h = tt
  initialised at (One e) h = sets at e h
  initialised at (Braces xs) h = items at xs h

  is_declared : (d : Declared) (x : Init) → test.declared_fits s p d x ≡ true → DeclaredFits s p d x
  is_declared (declared.Local n) x h =
      let y = and_parts (here.is_there p (origin.Local n)) (test.init_fits s p (location_of p (origin.Local n)) x) h in
      (there p (origin.Local n) y.0, initialised (location_of p (origin.Local n)) x y.1)
  is_declared (declared.Global n) x h = tt
  is_declared declared.Function x h = tt

  declarators : (ds : List Dec) → test.declarators_fit s p ds ≡ true → DeclaratorsFit s p ds
  declarators [] h = tt
  declarators (d ∷ ds) h =
      let x = and_parts (test.declared_fits s p d.declared d.init) (test.declarators_fit s p ds) h in
      (is_declared d.declared d.init x.0, declarators ds x.1)

  -- Statements.

  starts : (x : Start) → test.start_fits s p x ≡ true → StartFits s p x
  starts NoStart h = tt
  starts (Begin e) h = fits p Value e h
  starts (Declare ds) h = declarators ds h

  returned : (e : Option Exp) → test.return_fits s p e ≡ true → ReturnFits s p e
  returned None h = tt
  returned (Some e) h =
      let x = and_parts (expressions.fits p Value e) (same_type (type_of e) s.result) h in
      (fits p Value e x.0, types_one (type_of e) s.result x.1)

  mutual
    statement : (x : Stm) → test.statement_fits s p x ≡ true → StatementFits s p x
    statement (Block xs end) h = statements xs h
    statement (Decl ds) h = declarators ds h
    statement (Evaluate e) h = dropped e h
    statement (If q e x) h =
        let a = and_parts (test.test_fits p e) (test.statement_fits s p x) h in
        (tested e a.0, statement x a.1)
    statement (IfElse q e x y) h =
        let a = and_parts (test.test_fits p e) (test.statement_fits s p x && test.statement_fits s p y) h in
        let b = and_parts (test.statement_fits s p x) (test.statement_fits s p y) a.1 in
        (tested e a.0, statement x b.0, statement y b.1)
    statement (While q e x) h =
        let a = and_parts (test.test_fits p e) (test.statement_fits s p x) h in
        (tested e a.0, statement x a.1)
    statement (Do q x e) h =
        let a = and_parts (test.statement_fits s p x) (test.test_fits p e) h in
        (statement x a.0, tested e a.1)
    statement (For q f c n x) h =
        let a = and_parts (test.start_fits s p f) (test.test_fits_if p c && (test.fits_if p n && test.statement_fits s p x)) h in
        let b = and_parts (test.test_fits_if p c) (test.fits_if p n && test.statement_fits s p x) a.1 in
        let d = and_parts (test.fits_if p n) (test.statement_fits s p x) b.1 in
        (starts f a.0, tested_if c b.0, dropped n d.0, statement x d.1)
    statement (Switch q e xs) h =
        let a = and_parts (test.number_fits p e) (test.statements_fit s p xs) h in
        let b = and_parts (expressions.fits p Value e) (is_integer (type_of e)) a.0 in
        (fits p Value e b.0, b.1, statements xs a.1)
    statement (Case n e) h = tt
    statement Default h = tt
    statement (Goto q n) h = tt
    statement Break h = tt
    statement Continue h = tt
    statement (Return q e) h = returned e h
    statement (Label n x) h = statement x h

    statements : (xs : Stms) → test.statements_fit s p xs ≡ true → StatementsFit s p xs
    statements NoStms h = tt
    statements (Stms' x xs) h =
        let a = and_parts (test.statement_fits s p x) (test.statements_fit s p xs) h in
        (statement x a.0, statements xs a.1)

  -- what is known of the two parts of the test
  pub function_fits : (r b : Bool) → r ≡ may_give s.result → b ≡ test.statement_fits s p s.body → r ≡ true → b ≡ true
      → FunctionFits s p
  function_fits r b e f h k = record { result = sym e ∙ h; body = statement s.body (sym f ∙ k) }
