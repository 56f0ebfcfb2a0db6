-- Programs in which no function that tries to lock is called by its name, as `spin_trylock`; and a program with the
-- machine of locks as if a machine file had given it.
use Rattle.std.specs.Prelude.{◌≡◌, ℕ, Option, Some, None, List, [], ◌∷◌, slice_index_or, slice_get}
use Rattle.fsm_spec.specs.Lock.{locks}
use Rattle.sc_typed.specs.declared.program.Program.{Program}
use Rattle.sc_world.specs.Tree.{Exp, Comma, Assign, Cond, Binary, Cast, Unary, PreInc, PostInc, SizeofExpr, SizeofType, Index, Call, Field, Param, Local, Global, Function, Number, Str, Convert, Temp, TempPlace, Exps, NoExps, Exps', Given, Init, NoInit, One, Braces, Dec, Start, NoStart, Begin, Declare, Stm, Block, Decl, Evaluate, If, IfElse, While, Do, For, Switch, Case, Default, Goto, Break, Continue, Return, Label, Stms, NoStms, Stms'}
use Rattle.sc_world.specs.Source.{trying}
use Rattle.sc_world.specs.Programs.{own, structs_of}

-- the program without a machine file
abbrev pub without_file : Program → Program
without_file p = record p { machine = None }

-- the program with a machine file that spells the machine of locks
abbrev pub with_file : Program → Program
with_file p = record p { machine = Some locks }

-- the texts of the names are given
module _ (names : List (List ℕ)) where
  -- what is called is no function that tries to lock
  abbrev pub IsNoTry : Exp → Type 0
  IsNoTry (Function n body t) = trying (slice_index_or names n.at []) ≡ None
  IsNoTry _ = Unit {0}

  abbrev mutual
    pub CallsNoTry : Exp → Type 0
    CallsNoTry (Comma a b t) = CallsNoTry a × CallsNoTry b
    CallsNoTry (Assign o w a b t) = CallsNoTry a × CallsNoTry b
    CallsNoTry (Cond a b c t) = CallsNoTry a × CallsNoTry b × CallsNoTry c
    CallsNoTry (Binary o a b t) = CallsNoTry a × CallsNoTry b
    CallsNoTry (Cast a t) = CallsNoTry a
    CallsNoTry (Unary o a t) = CallsNoTry a
    CallsNoTry (PreInc s a t) = CallsNoTry a
    CallsNoTry (PostInc s a t) = CallsNoTry a
    CallsNoTry (SizeofExpr a n t) = CallsNoTry a
    CallsNoTry (SizeofType n t) = Unit {0}
    CallsNoTry (Index a b t) = CallsNoTry a × CallsNoTry b
    CallsNoTry (Call p f es t) = IsNoTry f × CallsNoTry f × AllCallNoTry es
    CallsNoTry (Field a n arrow t) = CallsNoTry a
    CallsNoTry (Param n t) = Unit {0}
    CallsNoTry (Local n t) = Unit {0}
    CallsNoTry (Global n t) = Unit {0}
    CallsNoTry (Function n body t) = Unit {0}
    CallsNoTry (Number n t) = Unit {0}
    CallsNoTry (Str p t) = Unit {0}
    CallsNoTry (Convert a t) = CallsNoTry a
    CallsNoTry (Temp n t) = Unit {0}
    CallsNoTry (TempPlace n t) = Unit {0}

    pub AllCallNoTry : Exps → Type 0
    AllCallNoTry NoExps = Unit {0}
    AllCallNoTry (Exps' e es) = CallsNoTry e × AllCallNoTry es

  abbrev pub CallsNoTryIf : Option Exp → Type 0
  CallsNoTryIf None = Unit {0}
  CallsNoTryIf (Some e) = CallsNoTry e

  abbrev pub ItemsCallNoTry : List Given → Type 0
  ItemsCallNoTry [] = Unit {0}
  ItemsCallNoTry (x ∷ xs) = CallsNoTry x.value × ItemsCallNoTry xs

  abbrev pub InitCallsNoTry : Init → Type 0
  InitCallsNoTry NoInit = Unit {0}
  InitCallsNoTry (One e) = CallsNoTry e
  InitCallsNoTry (Braces xs) = ItemsCallNoTry xs

  abbrev pub DeclaratorsCallNoTry : List Dec → Type 0
  DeclaratorsCallNoTry [] = Unit {0}
  DeclaratorsCallNoTry (d ∷ ds) = InitCallsNoTry d.init × DeclaratorsCallNoTry ds

  abbrev pub StartCallsNoTry : Start → Type 0
  StartCallsNoTry NoStart = Unit {0}
  StartCallsNoTry (Begin e) = CallsNoTry e
  StartCallsNoTry (Declare ds) = DeclaratorsCallNoTry ds

  abbrev mutual
    pub StatementCallsNoTry : Stm → Type 0
    StatementCallsNoTry (Block xs end) = StatementsCallNoTry xs
    StatementCallsNoTry (Decl ds) = DeclaratorsCallNoTry ds
    StatementCallsNoTry (Evaluate e) = CallsNoTryIf e
    StatementCallsNoTry (If p e x) = CallsNoTry e × StatementCallsNoTry x
    StatementCallsNoTry (IfElse p e x y) = CallsNoTry e × StatementCallsNoTry x × StatementCallsNoTry y
    StatementCallsNoTry (While p e x) = CallsNoTry e × StatementCallsNoTry x
    StatementCallsNoTry (Do p x e) = StatementCallsNoTry x × CallsNoTry e
    StatementCallsNoTry (For p f c n x) = StartCallsNoTry f × CallsNoTryIf c × CallsNoTryIf n × StatementCallsNoTry x
    StatementCallsNoTry (Switch p e xs) = CallsNoTry e × StatementsCallNoTry xs
    StatementCallsNoTry (Case n e) = CallsNoTry e
    StatementCallsNoTry Default = Unit {0}
    StatementCallsNoTry (Goto p n) = Unit {0}
    StatementCallsNoTry Break = Unit {0}
    StatementCallsNoTry Continue = Unit {0}
    StatementCallsNoTry (Return p e) = CallsNoTryIf e
    StatementCallsNoTry (Label n x) = StatementCallsNoTry x

    pub StatementsCallNoTry : Stms → Type 0
    StatementsCallNoTry NoStms = Unit {0}
    StatementsCallNoTry (Stms' x xs) = StatementCallsNoTry x × StatementsCallNoTry xs

-- no function of the program calls one that tries to lock
abbrev pub ProgramCallsNoTry : Program → Type 0
ProgramCallsNoTry p = (f : ℕ) → StatementCallsNoTry p.names (own (structs_of p) (slice_get p.functions f)).body

-- no name is that of a function that tries to lock
abbrev pub NoNameTries : List (List ℕ) → Type 0
NoNameTries names = (n : ℕ) → trying (slice_index_or names n []) ≡ None
