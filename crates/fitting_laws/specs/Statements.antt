-- Statements and functions as typing makes them (C11 6.7.9, 6.8): the expressions are typed, and have the types that
-- stand there.
use Rattle.std.specs.Prelude.{◌≡◌, ℕ, true, Option, Some, None, List, [], ◌∷◌, slice_get, slice_index_or}
use Rattle.sc_base.specs.declared.pos.NameId.{NameId}
use Rattle.sc_typed.specs.declared.stmt.Declared.{Declared}
use Rattle.sc_typed.specs.declared.stmt.Declared.TheVariants as declared
use Rattle.sc_typed.specs.declared.stmt.InitStep.{InitStep}
use Rattle.sc_typed.specs.declared.stmt.InitStep.TheVariants as into
use Rattle.sc_world.specs.Tree.{Ty, Array, Struct, is_integer, Exp, type_of, Given, Init, NoInit, One, Braces, Dec, Start, NoStart, Begin, Declare, Stm, Block, Decl, Evaluate, If, IfElse, While, Do, For, Switch, Case, Default, Goto, Break, Continue, Return, Label, Stms, NoStms, Stms'}
use Rattle.sc_world.specs.Source.{Source}
use Rattle.sc_world.specs.Objects.{members_of}
use Rattle.sc_world.specs.Eval.{Value}
use Rattle.run_laws.specs.Fits.{is_scalar, if_scalar, may_give}
use Rattle.fitting_laws.specs.Typed.{HasMember, IsTyped}

module _ (s : Source) where
  abbrev pub TestTyped : Exp → Type 0
  TestTyped e = IsTyped s Value e × (is_scalar (type_of e) ≡ true)

  abbrev pub TestTypedIf : Option Exp → Type 0
  TestTypedIf None = Unit {0}
  TestTypedIf (Some e) = TestTyped e

  abbrev pub TypedIf : Option Exp → Type 0
  TypedIf None = Unit {0}
  TypedIf (Some e) = IsTyped s Value e

  -- a step of an initialiser into an object of a type, and the type of the part
  abbrev pub StepsInto : Ty → InitStep → Ty → Type 0
  StepsInto u (into.Field k) v =
      (m : ℕ) × (n : NameId) × (u ≡ Struct m)
      × ((slice_index_or (members_of s m) k (record { name = None; type = Struct m })).name ≡ Some n) × HasMember s m n v
  StepsInto u (into.Elem k) v = (n : Option ℕ) × (u ≡ Array v n)

  abbrev pub LeadsInto : Ty → List InitStep → Ty → Type 0
  LeadsInto u [] t = u ≡ t
  LeadsInto u (x ∷ xs) t = (v : Ty) × StepsInto u x v × LeadsInto v xs t

  -- a value without a way sets nothing
  abbrev pub LeadsIf : Ty → Option (List InitStep) → Ty → Type 0
  LeadsIf u None t = Unit {0}
  LeadsIf u (Some way) t = LeadsInto u way t

  abbrev pub ItemsTyped : Ty → List Given → Type 0
  ItemsTyped u [] = Unit {0}
  ItemsTyped u (x ∷ xs) =
      IsTyped s (if_scalar (type_of x.value)) x.value × LeadsIf u x.way (type_of x.value) × ItemsTyped u xs

  abbrev pub InitTyped : Ty → Init → Type 0
  InitTyped u NoInit = Unit {0}
  InitTyped u (One e) = IsTyped s (if_scalar (type_of e)) e × (u ≡ type_of e)
  InitTyped u (Braces xs) = ItemsTyped u xs

  abbrev pub DeclaredTyped : Declared → Init → Type 0
  DeclaredTyped (declared.Local n) x = (u : Ty) × (slice_get s.locals n ≡ Some u) × InitTyped u x
  DeclaredTyped _ x = Unit {0}

  abbrev pub DeclaratorsTyped : List Dec → Type 0
  DeclaratorsTyped [] = Unit {0}
  DeclaratorsTyped (d ∷ ds) = DeclaredTyped d.declared d.init × DeclaratorsTyped ds

  abbrev pub StartTyped : Start → Type 0
  StartTyped NoStart = Unit {0}
  StartTyped (Begin e) = IsTyped s Value e
  StartTyped (Declare ds) = DeclaratorsTyped ds

  abbrev pub ReturnTyped : Option Exp → Type 0
  ReturnTyped None = Unit {0}
  ReturnTyped (Some e) = IsTyped s Value e × (type_of e ≡ s.result)

  abbrev mutual
    pub StatementTyped : Stm → Type 0
    StatementTyped (Block xs end) = StatementsTyped xs
    StatementTyped (Decl ds) = DeclaratorsTyped ds
    StatementTyped (Evaluate e) = TypedIf e
    StatementTyped (If q e x) = TestTyped e × StatementTyped x
    StatementTyped (IfElse q e x y) = TestTyped e × StatementTyped x × StatementTyped y
    StatementTyped (While q e x) = TestTyped e × StatementTyped x
    StatementTyped (Do q x e) = StatementTyped x × TestTyped e
    StatementTyped (For q f c n x) = StartTyped f × TestTypedIf c × TypedIf n × StatementTyped x
    StatementTyped (Switch q e xs) = IsTyped s Value e × (is_integer (type_of e) ≡ true) × StatementsTyped xs
    StatementTyped (Case n e) = Unit {0}
    StatementTyped Default = Unit {0}
    StatementTyped (Goto q n) = Unit {0}
    StatementTyped Break = Unit {0}
    StatementTyped Continue = Unit {0}
    StatementTyped (Return q e) = ReturnTyped e
    StatementTyped (Label n x) = StatementTyped x

    pub StatementsTyped : Stms → Type 0
    StatementsTyped NoStms = Unit {0}
    StatementsTyped (Stms' x xs) = StatementTyped x × StatementsTyped xs

  -- the result is an integer, a pointer or nothing, and the body is typed
  pub record FunctionTyped : Type 0 where
    pub result : may_give s.result ≡ true
    pub body : StatementTyped s.body
