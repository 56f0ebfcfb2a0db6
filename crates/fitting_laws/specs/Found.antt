-- What an expression names is among what was found of the text of its function.
use Rattle.std.specs.Prelude.{◌≡◌, ℕ, nat_eq, Bool, true, false, Option, Some, None, List, [], ◌∷◌}
use Rattle.std.specs.List.{list_any}
use Rattle.sc_world.specs.declared.run.Origin.TheVariants as origin
use Rattle.sc_tree.specs.declared.expr.Place.{Place}
use Rattle.sc_world.specs.Tree.{Ty, Exp, Comma, Assign, Cond, Binary, Cast, Unary, PreInc, PostInc, SizeofExpr, SizeofType, Index, Call, Field, Param, Local, Global, Function, Number, Str, Convert, Temp, TempPlace, Exps, NoExps, Exps', Given, Init, NoInit, One, Braces, Dec, Start, NoStart, Begin, Declare, Stm, Block, Decl, Evaluate, If, IfElse, While, Do, For, Switch, Case, Default, Goto, Break, Continue, Return, Label, Stms, NoStms, Stms'}
use Rattle.sc_world.specs.Source.{Source, effect}
use Rattle.sc_world.specs.Gather.{Found, Site}
use Rattle.sc_world.specs.Objects.{is_named}
use Rattle.layout_laws.specs.Origins.{IsAmong}

-- a function's name is looked for where it stands as a value
abbrev pub IfValue : Bool → Type 0 → Type 0
IfValue true P = P
IfValue false P = Unit {0}

module _ (s : Source) (f : Found) where
  -- the call with its opening bracket, what it does and what it gives
  abbrev pub HasCall : Place → Exp → Exps → Ty → Type 0
  HasCall p g es t = (x : Site) × IsAmong x f.sites × (x.bracket ≡ p.token) × (x.effect ≡ effect s g es t)

  abbrev mutual
    pub IsFound : Exp → (value : Bool) → Type 0
    IsFound (Comma a b t) v = IsFound a true × IsFound b true
    IsFound (Assign o w a b t) v = IsFound a true × IsFound b true
    IsFound (Cond a b c t) v = IsFound a true × IsFound b true × IsFound c true
    IsFound (Binary o a b t) v = IsFound a true × IsFound b true
    IsFound (Cast a t) v = IsFound a true
    IsFound (Unary o a t) v = IsFound a true
    IsFound (PreInc d a t) v = IsFound a true
    IsFound (PostInc d a t) v = IsFound a true
    IsFound (SizeofExpr a n t) v = IsFound a false
    IsFound (SizeofType n t) v = Unit {0}
    IsFound (Index a b t) v = IsFound a true × IsFound b true
    IsFound (Call p g es t) v = IsFound g false × AllFound es × HasCall p g es t
    IsFound (Field a n arrow t) v = IsFound a true × (is_named f n ≡ true)
    IsFound (Param n t) v = Unit {0}
    IsFound (Local n t) v = Unit {0}
    IsFound (Global n t) v = list_any (nat_eq n) f.globals ≡ true
    IsFound (Function n b t) v = IfValue v (IsAmong (origin.Function n) f.literals)
    IsFound (Number n t) v = Unit {0}
    IsFound (Str p t) v = IsAmong (origin.Literal p.token) f.literals
    IsFound (Convert a t) v = IsFound a v
    IsFound (Temp n t) v = Unit {0}
    IsFound (TempPlace n t) v = Unit {0}

    pub AllFound : Exps → Type 0
    AllFound NoExps = Unit {0}
    AllFound (Exps' e es) = IsFound e true × AllFound es

  abbrev pub FoundIf : Option Exp → Type 0
  FoundIf None = Unit {0}
  FoundIf (Some e) = IsFound e true

  abbrev pub ItemsFound : List Given → Type 0
  ItemsFound [] = Unit {0}
  ItemsFound (x ∷ xs) = IsFound x.value true × ItemsFound xs

  abbrev pub InitFound : Init → Type 0
  InitFound NoInit = Unit {0}
  InitFound (One e) = IsFound e true
  InitFound (Braces xs) = ItemsFound xs

  abbrev pub DeclaratorsFound : List Dec → Type 0
  DeclaratorsFound [] = Unit {0}
  DeclaratorsFound (d ∷ ds) = InitFound d.init × DeclaratorsFound ds

  abbrev pub StartFound : Start → Type 0
  StartFound NoStart = Unit {0}
  StartFound (Begin e) = IsFound e true
  StartFound (Declare ds) = DeclaratorsFound ds

  abbrev mutual
    pub StatementFound : Stm → Type 0
    StatementFound (Block xs end) = StatementsFound xs
    StatementFound (Decl ds) = DeclaratorsFound ds
    StatementFound (Evaluate e) = FoundIf e
    StatementFound (If p e x) = IsFound e true × StatementFound x
    StatementFound (IfElse p e x y) = IsFound e true × StatementFound x × StatementFound y
    StatementFound (While p e x) = IsFound e true × StatementFound x
    StatementFound (Do p x e) = StatementFound x × IsFound e true
    StatementFound (For p g c n x) = StartFound g × FoundIf c × FoundIf n × StatementFound x
    StatementFound (Switch p e xs) = IsFound e true × StatementsFound xs
    StatementFound (Case n e) = IsFound e true
    StatementFound Default = Unit {0}
    StatementFound (Goto p n) = Unit {0}
    StatementFound Break = Unit {0}
    StatementFound Continue = Unit {0}
    StatementFound (Return p e) = FoundIf e
    StatementFound (Label n x) = StatementFound x

    pub StatementsFound : Stms → Type 0
    StatementsFound NoStms = Unit {0}
    StatementsFound (Stms' x xs) = StatementFound x × StatementsFound xs
