-- What a statement names and declares agrees with the source: expressions as in `Named.antt`; a local has a type there;
-- its initialiser is of that type, and the values in its braces are of the types of the parts to which they go. A value
-- that goes to no part is not void.
use Rattle.std.specs.Prelude.{◌≡◌, ℕ, false, Option, Some, None, List, [], ◌∷◌, slice_get}
use Rattle.sc_tree.specs.declared.ctype.CType.{CType}
use Rattle.sc_typed.specs.declared.stmt.Declared.{Declared}
use Rattle.sc_typed.specs.declared.stmt.Declared.TheVariants as declared
use Rattle.sc_world.specs.Tree.{Ty, is_void, Exp, type_of, Given, Init, NoInit, One, Braces, Dec, Start, NoStart, Begin, Declare, Stm, Block, Decl, Evaluate, If, IfElse, While, Do, For, Switch, Case, Default, Goto, Break, Continue, Return, Label, Stms, NoStms, Stms'}
use Rattle.sc_world.specs.Source.{Source}
use Rattle.sc_world.specs.View.{type}
use Rattle.fitting_laws.specs.Statements.{LeadsIf}
use Rattle.typed_laws.specs.Named.{NamesAgree}

module _ (s : Source) where
  abbrev pub AgreesIf : Option Exp → Type 0
  AgreesIf None = Unit {0}
  AgreesIf (Some e) = NamesAgree s e

  abbrev pub ItemsAgree : Ty → List Given → Type 0
  ItemsAgree u [] = Unit {0}
  ItemsAgree u (x ∷ xs) =
      NamesAgree s x.value × LeadsIf s u x.way (type_of x.value) × (is_void (type_of x.value) ≡ false) × ItemsAgree u xs

  abbrev pub InitAgrees : Ty → Init → Type 0
  InitAgrees u NoInit = Unit {0}
  InitAgrees u (One e) = NamesAgree s e × (u ≡ type_of e)
  InitAgrees u (Braces xs) = ItemsAgree u xs

  abbrev pub DeclaredAgrees : Declared → Init → Type 0
  DeclaredAgrees (declared.Local n) x = (u : Ty) × (slice_get s.locals n ≡ Some u) × InitAgrees u x
  DeclaredAgrees _ x = Unit {0}

  abbrev pub DeclaratorsAgree : List Dec → Type 0
  DeclaratorsAgree [] = Unit {0}
  DeclaratorsAgree (d ∷ ds) = DeclaredAgrees d.declared d.init × DeclaratorsAgree ds

  abbrev pub StartAgrees : Start → Type 0
  StartAgrees NoStart = Unit {0}
  StartAgrees (Begin e) = NamesAgree s e
  StartAgrees (Declare ds) = DeclaratorsAgree ds

  abbrev mutual
    pub StatementAgrees : Stm → Type 0
    StatementAgrees (Block xs end) = StatementsAgree xs
    StatementAgrees (Decl ds) = DeclaratorsAgree ds
    StatementAgrees (Evaluate e) = AgreesIf e
    StatementAgrees (If q e x) = NamesAgree s e × StatementAgrees x
    StatementAgrees (IfElse q e x y) = NamesAgree s e × StatementAgrees x × StatementAgrees y
    StatementAgrees (While q e x) = NamesAgree s e × StatementAgrees x
    StatementAgrees (Do q x e) = StatementAgrees x × NamesAgree s e
    StatementAgrees (For q f c n x) = StartAgrees f × AgreesIf c × AgreesIf n × StatementAgrees x
    StatementAgrees (Switch q e xs) = NamesAgree s e × StatementsAgree xs
    StatementAgrees (Case n e) = Unit {0}
    StatementAgrees Default = Unit {0}
    StatementAgrees (Goto q n) = Unit {0}
    StatementAgrees Break = Unit {0}
    StatementAgrees Continue = Unit {0}
    StatementAgrees (Return q e) = AgreesIf e
    StatementAgrees (Label n x) = StatementAgrees x

    pub StatementsAgree : Stms → Type 0
    StatementsAgree NoStms = Unit {0}
    StatementsAgree (Stms' x xs) = StatementAgrees x × StatementsAgree xs

  -- the result of the function, where typing knows it
  abbrev pub ResultIs : Option CType → Type 0
  ResultIs None = Unit {0}
  ResultIs (Some t) = type t ≡ s.result
