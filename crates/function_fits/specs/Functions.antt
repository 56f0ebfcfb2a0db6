-- Whether a function fits its layout, as a test: statement by statement what `FunctionFits` asks.
use Rattle.std.specs.Prelude.{ℕ, Bool, true, ◌&&◌, Option, Some, None, List, [], ◌∷◌}
use Rattle.sc_typed.specs.declared.stmt.Declared.{Declared}
use Rattle.sc_typed.specs.declared.stmt.Declared.TheVariants as declared
use Rattle.sc_world.specs.declared.run.Origin.TheVariants as origin
use Rattle.sc_world.specs.Tree.{Ty, is_integer, same_type, Exp, type_of, Given, Init, NoInit, One, Braces, Dec, Start, NoStart, Begin, Declare, Stm, Block, Decl, Evaluate, If, IfElse, While, Do, For, Switch, Case, Default, Goto, Break, Continue, Return, Label, Stms, NoStms, Stms'}
use Rattle.sc_world.specs.Source.{Source}
use Rattle.sc_world.specs.Layout.{Layout, location, location_of, has_type}
use Rattle.sc_world.specs.Eval.{Value}
use Rattle.sc_world.specs.Exec.{part_at, env_of}
use Rattle.run_laws.specs.Fits.{is_scalar, if_scalar, may_give}
use Rattle.expr_fits.specs.Here.{is_there}
use Rattle.function_fits.specs.Expressions.{fits}

module _ (p : Layout) where
  -- an expression that is tested
  abbrev pub test_fits : Exp → Bool
  test_fits e = fits p Value e && is_scalar (type_of e)

  abbrev pub test_fits_if : Option Exp → Bool
  test_fits_if None = true
  test_fits_if (Some e) = test_fits e

  -- an expression whose value is dropped
  abbrev pub fits_if : Option Exp → Bool
  fits_if None = true
  fits_if (Some e) = fits p Value e

  -- the number of a `switch`
  abbrev pub number_fits : Exp → Bool
  number_fits e = fits p Value e && is_integer (type_of e)

  -- an expression to whose value something is set
  abbrev pub value_fits : Exp → Bool
  value_fits e = fits p (if_scalar (type_of e)) e

  abbrev pub sets_part : (at : ℕ) → Exp → Bool
  sets_part at e = value_fits e && has_type (location p at) (type_of e)

  -- what a way leads to, if anything
  abbrev pub has_type_if : Option ℕ → Ty → Bool
  has_type_if None t = true
  has_type_if (Some at) t = has_type (location p at) t

module _ (s : Source) (p : Layout) where
  -- Initialisers: each value has the type of the part that it sets.

  abbrev pub item_fits : (at : ℕ) → Given → Bool
  item_fits at x = value_fits p x.value && has_type_if p (part_at (env_of s p []) at x.way) (type_of x.value)

  abbrev pub items_fit : (at : ℕ) → List Given → Bool
  items_fit at [] = true
  items_fit at (x ∷ xs) = item_fits at x && items_fit at xs

  abbrev pub init_fits : (at : ℕ) → Init → Bool
  init_fits at NoInit = true
  init_fits at (One e) = sets_part p at e
  init_fits at (Braces xs) = items_fit at xs

  -- a local is there
  abbrev pub declared_fits : Declared → Init → Bool
  declared_fits (declared.Local n) x = is_there p (origin.Local n) && init_fits (location_of p (origin.Local n)) x
  declared_fits _ x = true

  abbrev pub declarators_fit : List Dec → Bool
  declarators_fit [] = true
  declarators_fit (d ∷ ds) = declared_fits d.declared d.init && declarators_fit ds

  abbrev pub start_fits : Start → Bool
  start_fits NoStart = true
  start_fits (Begin e) = fits p Value e
  start_fits (Declare ds) = declarators_fit ds

  -- what is returned has the type of the result
  abbrev pub return_fits : Option Exp → Bool
  return_fits None = true
  return_fits (Some e) = fits p Value e && same_type (type_of e) s.result

  abbrev mutual
    pub statement_fits : Stm → Bool
    statement_fits (Block xs end) = statements_fit xs
    statement_fits (Decl ds) = declarators_fit ds
    statement_fits (Evaluate e) = fits_if p e
    statement_fits (If q e x) = test_fits p e && statement_fits x
    statement_fits (IfElse q e x y) = test_fits p e && (statement_fits x && statement_fits y)
    statement_fits (While q e x) = test_fits p e && statement_fits x
    statement_fits (Do q x e) = statement_fits x && test_fits p e
    statement_fits (For q f c n x) = start_fits f && (test_fits_if p c && (fits_if p n && statement_fits x))
    statement_fits (Switch q e xs) = number_fits p e && statements_fit xs
    statement_fits (Case n e) = true
    statement_fits Default = true
    statement_fits (Goto q n) = true
    statement_fits Break = true
    statement_fits Continue = true
    statement_fits (Return q e) = return_fits e
    statement_fits (Label n x) = statement_fits x

    pub statements_fit : Stms → Bool
    statements_fit NoStms = true
    statements_fit (Stms' x xs) = statement_fits x && statements_fit xs

  -- the result is an integer, a pointer or nothing, and the body fits
  abbrev pub function_fits : Bool
  function_fits = may_give s.result && statement_fits s.body
