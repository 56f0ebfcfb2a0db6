-- Functions that name only the first names of a program: the names that they call, those of their parameters and locals,
-- and those of the members and the globals of the program.
use Rattle.std.specs.Prelude.{◌≡◌, ℕ, ◌<◌, ◌≤◌, nat_eq, true, Option, Some, None, List, [], ◌∷◌, ◌++◌, length, map, slice_index_or, slice_get}
use Rattle.std.specs.List.{list_any}
use Rattle.sc_base.specs.declared.pos.NameId.{NameId}
use Rattle.sc_typed.specs.declared.program.Program.{Program}
use Rattle.sc_typed.specs.declared.program.Function.{Function as Body}
use Rattle.sc_world.specs.Tree.{Exp, Comma, Assign, Cond, Binary, Cast, Unary, PreInc, PostInc, SizeofExpr, SizeofType, Index, Call, Field, Param, Local, Global, Function, Number, Str, Convert, Temp, TempPlace, Exps, NoExps, Exps', Given, Init, NoInit, One, Braces, Dec, Start, NoStart, Begin, Declare, Stm, Block, Decl, Evaluate, If, IfElse, While, Do, For, Switch, Case, Default, Goto, Break, Continue, Return, Label, Stms, NoStms, Stms'}
use Rattle.sc_world.specs.Source.{Source, Struct, Member, Signature, no_signature}
use Rattle.sc_world.specs.Layout.{Layout}
use Rattle.sc_world.specs.Paths.{Texts}
use Rattle.sc_world.specs.Programs.{body_of, structs_of, signature}
use Rattle.program_verdicts.specs.Verdicts.{names_of, kept_of}

-- the names of a list stand in front of those of another
pub record IsFront (old new : List (List ℕ)) : Type 0 where
  pub added : List (List ℕ)
  pub grown : new ≡ old ++ added

-- the texts of the names and the signatures of all functions
pub record Tables : Type 0 where
  pub names : List (List ℕ)
  pub functions : List Signature

-- what is read of a function, with these tables
abbrev pub with_tables : Source → Tables → Source
with_tables s t = record s { names = t.names; functions = t.functions }

-- The signatures of the kept callees are the same. There is no summary but of a kept callee.
pub record SignaturesAgree (old new : Tables) (s : Source) : Type 0 where
  pub same : (g : ℕ) → list_any (nat_eq g) s.kept ≡ true
      → slice_index_or old.functions g no_signature ≡ slice_index_or new.functions g no_signature
  pub sums : length s.sums ≤ length s.kept

-- what texts read: the names of parameters, globals and locals, with these texts of all names
abbrev pub texts_with : (params globals locals : List NameId) → (names : List (List ℕ)) → Layout → Texts
texts_with params globals locals names layout =
    record { names = names; params = params; globals = globals; locals = locals; layout = layout }

-- so many names there are
module _ (count : ℕ) where
  -- what is called by name has one of the first names
  abbrev pub CalledBelow : Exp → Type 0
  CalledBelow (Function n body t) = n.at < count
  CalledBelow _ = Unit {0}

  abbrev mutual
    pub CallsBelow : Exp → Type 0
    CallsBelow (Comma a b t) = CallsBelow a × CallsBelow b
    CallsBelow (Assign o w a b t) = CallsBelow a × CallsBelow b
    CallsBelow (Cond a b c t) = CallsBelow a × CallsBelow b × CallsBelow c
    CallsBelow (Binary o a b t) = CallsBelow a × CallsBelow b
    CallsBelow (Cast a t) = CallsBelow a
    CallsBelow (Unary o a t) = CallsBelow a
    CallsBelow (PreInc s a t) = CallsBelow a
    CallsBelow (PostInc s a t) = CallsBelow a
    CallsBelow (SizeofExpr a n t) = CallsBelow a
    CallsBelow (SizeofType n t) = Unit {0}
    CallsBelow (Index a b t) = CallsBelow a × CallsBelow b
    CallsBelow (Call p f es t) = CalledBelow f × CallsBelow f × AllCallBelow es
    CallsBelow (Field a n arrow t) = CallsBelow a
    CallsBelow (Param n t) = Unit {0}
    CallsBelow (Local n t) = Unit {0}
    CallsBelow (Global n t) = Unit {0}
    CallsBelow (Function n body t) = Unit {0}
    CallsBelow (Number n t) = Unit {0}
    CallsBelow (Str p t) = Unit {0}
    CallsBelow (Convert a t) = CallsBelow a
    CallsBelow (Temp n t) = Unit {0}
    CallsBelow (TempPlace n t) = Unit {0}

    pub AllCallBelow : Exps → Type 0
    AllCallBelow NoExps = Unit {0}
    AllCallBelow (Exps' e es) = CallsBelow e × AllCallBelow es

  abbrev pub CallsBelowIf : Option Exp → Type 0
  CallsBelowIf None = Unit {0}
  CallsBelowIf (Some e) = CallsBelow e

  abbrev pub ItemsCallBelow : List Given → Type 0
  ItemsCallBelow [] = Unit {0}
  ItemsCallBelow (x ∷ xs) = CallsBelow x.value × ItemsCallBelow xs

  abbrev pub InitCallsBelow : Init → Type 0
  InitCallsBelow NoInit = Unit {0}
  InitCallsBelow (One e) = CallsBelow e
  InitCallsBelow (Braces xs) = ItemsCallBelow xs

  abbrev pub DeclaratorsCallBelow : List Dec → Type 0
  DeclaratorsCallBelow [] = Unit {0}
  DeclaratorsCallBelow (d ∷ ds) = InitCallsBelow d.init × DeclaratorsCallBelow ds

  abbrev pub StartCallsBelow : Start → Type 0
  StartCallsBelow NoStart = Unit {0}
  StartCallsBelow (Begin e) = CallsBelow e
  StartCallsBelow (Declare ds) = DeclaratorsCallBelow ds

  abbrev mutual
    pub StatementCallsBelow : Stm → Type 0
    StatementCallsBelow (Block xs end) = StatementsCallBelow xs
    StatementCallsBelow (Decl ds) = DeclaratorsCallBelow ds
    StatementCallsBelow (Evaluate e) = CallsBelowIf e
    StatementCallsBelow (If p e x) = CallsBelow e × StatementCallsBelow x
    StatementCallsBelow (IfElse p e x y) = CallsBelow e × StatementCallsBelow x × StatementCallsBelow y
    StatementCallsBelow (While p e x) = CallsBelow e × StatementCallsBelow x
    StatementCallsBelow (Do p x e) = StatementCallsBelow x × CallsBelow e
    StatementCallsBelow (For p f c n x) = StartCallsBelow f × CallsBelowIf c × CallsBelowIf n × StatementCallsBelow x
    StatementCallsBelow (Switch p e xs) = CallsBelow e × StatementsCallBelow xs
    StatementCallsBelow (Case n e) = CallsBelow e
    StatementCallsBelow Default = Unit {0}
    StatementCallsBelow (Goto p n) = Unit {0}
    StatementCallsBelow Break = Unit {0}
    StatementCallsBelow Continue = Unit {0}
    StatementCallsBelow (Return p e) = CallsBelowIf e
    StatementCallsBelow (Label n x) = StatementCallsBelow x

    pub StatementsCallBelow : Stms → Type 0
    StatementsCallBelow NoStms = Unit {0}
    StatementsCallBelow (Stms' x xs) = StatementCallsBelow x × StatementsCallBelow xs

abbrev pub IsBelow : ℕ → NameId → Type 0
IsBelow count n = n.at < count

abbrev pub NamedBelow : ℕ → Option NameId → Type 0
NamedBelow count None = Unit {0}
NamedBelow count (Some n) = IsBelow count n

-- the members of a struct
abbrev pub MembersBelow : ℕ → List Member → Type 0
MembersBelow count [] = Unit {0}
MembersBelow count (m ∷ ms) = NamedBelow count m.name × MembersBelow count ms

abbrev pub StructsBelow : ℕ → List Struct → Type 0
StructsBelow count [] = Unit {0}
StructsBelow count (s ∷ ss) = MembersBelow count s.members × StructsBelow count ss

abbrev pub AllBelow : ℕ → List NameId → Type 0
AllBelow count [] = Unit {0}
AllBelow count (n ∷ ns) = IsBelow count n × AllBelow count ns

-- what is read of a function names the first names alone: its calls, the members of structs, and what texts read
pub record ReadsBelow (count : ℕ) (s : Source) (params globals locals : List NameId) : Type 0 where
  pub some : 0 < count
  pub calls : StatementCallsBelow count s.body
  pub members : StructsBelow count s.structs
  pub params_below : AllBelow count params
  pub globals_below : AllBelow count globals
  pub locals_below : AllBelow count locals

-- a function of a program names the first names alone
pub record NamesBelow (count : ℕ) (p : Program) (f : Body) : Type 0 where
  pub some : 0 < count
  pub calls : StatementCallsBelow count (body_of (structs_of p) f.body)
  pub members : StructsBelow count (structs_of p)
  pub params_below : AllBelow count (names_of f.params)
  pub globals_below : AllBelow count (map (λ g. g.name) p.globals)
  pub locals_below : AllBelow count (names_of f.locals)

abbrev pub NamesBelowIf : (count : ℕ) → Program → Option Body → Type 0
NamesBelowIf count p None = Unit {0}
NamesBelowIf count p (Some f) = NamesBelow count p f

-- the signature of the function with that number
abbrev pub signature_of : Program → ℕ → Signature
signature_of p g = slice_index_or (map signature p.functions) g no_signature

-- A function of a program is read as one of an earlier program is: it is the same, with the same kept callees, which have the
-- same signatures, and the widths, the machine, the structs and the globals of the two programs are equal. The names of the
-- earlier program are the first of the later one, and the function and the tables name no others.
pub record IsReadAlike (earlier later : Program) (g f : ℕ) : Type 0 where
  pub function : slice_get later.functions f ≡ slice_get earlier.functions g
  pub kept : kept_of later f ≡ kept_of earlier g
  pub widths : later.widths ≡ earlier.widths
  pub machine : later.machine ≡ earlier.machine
  pub structs : later.structs ≡ earlier.structs
  pub globals : later.globals ≡ earlier.globals
  pub signatures : (n : ℕ) → list_any (nat_eq n) (kept_of earlier g) ≡ true → signature_of later n ≡ signature_of earlier n
  pub front : IsFront earlier.names later.names
  pub below : NamesBelowIf (length earlier.names) earlier (slice_get earlier.functions g)
