-- Statements and functions that fit a layout: their expressions do, and have the types that stand there.
use Rattle.std.specs.Prelude.{◌≡◌, ℕ, true, Option, Some, None, List, [], ◌∷◌}
use Rattle.sc_typed.specs.declared.stmt.Declared.{Declared}
use Rattle.sc_typed.specs.declared.stmt.Declared.TheVariants as declared
use Rattle.sc_world.specs.declared.run.Origin.TheVariants as origin
use Rattle.sc_world.specs.Tree.{is_integer, Exp, type_of, Given, Init, NoInit, One, Braces, Dec, Start, NoStart, Begin, Declare, Stm, Block, Decl, Evaluate, If, IfElse, While, Do, For, Switch, Case, Default, Goto, Break, Continue, Return, Label, Stms, NoStms, Stms'}
use Rattle.sc_world.specs.Source.{Source}
use Rattle.sc_world.specs.Layout.{Layout, location, location_of, has_type}
use Rattle.sc_world.specs.Eval.{Value}
use Rattle.sc_world.specs.Exec.{part_at, env_of}
use Rattle.run_laws.specs.Fits.{is_scalar, if_scalar, may_give, IsThere, Fits}

module _ (s : Source) (p : Layout) where
  abbrev pub TestFits : Exp → Type 0
  TestFits e = Fits p Value e × (is_scalar (type_of e) ≡ true)

  abbrev pub TestFitsIf : Option Exp → Type 0
  TestFitsIf None = Unit {0}
  TestFitsIf (Some e) = TestFits e

  -- an expression whose value is dropped
  abbrev pub FitsIf : Option Exp → Type 0
  FitsIf None = Unit {0}
  FitsIf (Some e) = Fits p Value e

  -- Initialisers: each value has the type of the part that it sets.

  abbrev pub SetsPart : (at : ℕ) → Exp → Type 0
  SetsPart at e = Fits p (if_scalar (type_of e)) e × (has_type (location p at) (type_of e) ≡ true)

  abbrev pub ItemsFit : (at : ℕ) → List Given → Type 0
  ItemsFit at [] = Unit {0}
  ItemsFit at (x ∷ xs) =
      Fits p (if_scalar (type_of x.value)) x.value
      × ((k : ℕ) → part_at (env_of s p []) at x.way ≡ Some k → has_type (location p k) (type_of x.value) ≡ true)
      × ItemsFit at xs

  abbrev pub InitFits : (at : ℕ) → Init → Type 0
  InitFits at NoInit = Unit {0}
  InitFits at (One e) = SetsPart at e
  InitFits at (Braces xs) = ItemsFit at xs

  abbrev pub DeclaredFits : Declared → Init → Type 0
  DeclaredFits (declared.Local n) x = IsThere p (origin.Local n) × InitFits (location_of p (origin.Local n)) x
  DeclaredFits _ x = Unit {0}

  abbrev pub DeclaratorsFit : List Dec → Type 0
  DeclaratorsFit [] = Unit {0}
  DeclaratorsFit (d ∷ ds) = DeclaredFits d.declared d.init × DeclaratorsFit ds

  abbrev pub StartFits : Start → Type 0
  StartFits NoStart = Unit {0}
  StartFits (Begin e) = Fits p Value e
  StartFits (Declare ds) = DeclaratorsFit ds

  -- what is returned has the type of the result
  abbrev pub ReturnFits : Option Exp → Type 0
  ReturnFits None = Unit {0}
  ReturnFits (Some e) = Fits p Value e × (type_of e ≡ s.result)

  abbrev mutual
    pub StatementFits : Stm → Type 0
    StatementFits (Block xs end) = StatementsFit xs
    StatementFits (Decl ds) = DeclaratorsFit ds
    StatementFits (Evaluate e) = FitsIf e
    StatementFits (If q e x) = TestFits e × StatementFits x
    StatementFits (IfElse q e x y) = TestFits e × StatementFits x × StatementFits y
    StatementFits (While q e x) = TestFits e × StatementFits x
    StatementFits (Do q x e) = StatementFits x × TestFits e
    StatementFits (For q f c n x) = StartFits f × TestFitsIf c × FitsIf n × StatementFits x
    StatementFits (Switch q e xs) = Fits p Value e × (is_integer (type_of e) ≡ true) × StatementsFit xs
    StatementFits (Case n e) = Unit {0}
    StatementFits Default = Unit {0}
    StatementFits (Goto q n) = Unit {0}
    StatementFits Break = Unit {0}
    StatementFits Continue = Unit {0}
    StatementFits (Return q e) = ReturnFits e
    StatementFits (Label n x) = StatementFits x

    pub StatementsFit : Stms → Type 0
    StatementsFit NoStms = Unit {0}
    StatementsFit (Stms' x xs) = StatementFits x × StatementsFit xs

  -- the result is an integer, a pointer or nothing, and the body fits
  pub record FunctionFits : Type 0 where
    pub result : may_give s.result ≡ true
    pub body : StatementFits s.body
