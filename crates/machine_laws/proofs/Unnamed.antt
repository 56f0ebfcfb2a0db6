-- Where no name is that of a function that tries to lock, none is called.
use Rattle.std.proofs.Common.{◌≡◌, ℕ, List, [], ◌∷◌}
use Rattle.std.specs.Prelude.{Option, Some, None, slice_get}
use Rattle.sc_typed.specs.declared.program.Program.{Program}
use Rattle.sc_world.specs.Tree.{Exp, Comma, Assign, Cond, Binary, Cast, Unary, PreInc, PostInc, SizeofExpr, SizeofType, Index, Call, Field, Param, Local, Global, Function, Number, Str, Convert, Temp, TempPlace, Exps, NoExps, Exps', Given, Init, NoInit, One, Braces, Dec, Start, NoStart, Begin, Declare, Stm, Block, Decl, Evaluate, If, IfElse, While, Do, For, Switch, Case, Default, Goto, Break, Continue, Return, Label, Stms, NoStms, Stms'}
use Rattle.sc_world.specs.Programs.{own, structs_of}
use Rattle.machine_laws.specs.Tries.{IsNoTry, CallsNoTry, AllCallNoTry, CallsNoTryIf, ItemsCallNoTry, InitCallsNoTry, DeclaratorsCallNoTry, StartCallsNoTry, StatementCallsNoTry, StatementsCallNoTry, ProgramCallsNoTry, NoNameTries}

module _ (names : List (List ℕ)) (h : NoNameTries names) where
  callee : (f : Exp) → IsNoTry names f
  callee (Function n b t) = h n.at
  callee _ = tt

  mutual
    exp : (e : Exp) → CallsNoTry names e
    exp (Comma a b t) = (exp a, exp b)
    exp (Assign o w a b t) = (exp a, exp b)
    exp (Cond a b c t) = (exp a, exp b, exp c)
    exp (Binary o a b t) = (exp a, exp b)
    exp (Cast a t) = exp a
    exp (Unary o a t) = exp a
    exp (PreInc d a t) = exp a
    exp (PostInc d a t) = exp a
    exp (SizeofExpr a n t) = exp a
    exp (SizeofType n t) = tt
    exp (Index a b t) = (exp a, exp b)
    exp (Call p f es t) = (callee f, exp f, exps es)
    exp (Field a n arrow t) = exp a
    exp (Param n t) = tt
    exp (Local n t) = tt
    exp (Global n t) = tt
    exp (Function n b t) = tt
    exp (Number n t) = tt
    exp (Str p t) = tt
    exp (Convert a t) = exp a
    exp (Temp n t) = tt
    exp (TempPlace n t) = tt

    exps : (es : Exps) → AllCallNoTry names es
    exps NoExps = tt
    exps (Exps' e es) = (exp e, exps es)

  exp_if : (e : Option Exp) → CallsNoTryIf names e
  exp_if None = tt
  exp_if (Some e) = exp e

  items : (xs : List Given) → ItemsCallNoTry names xs
  items [] = tt
  items (x ∷ xs) = (exp x.value, items xs)

  init : (x : Init) → InitCallsNoTry names x
  init NoInit = tt
  init (One e) = exp e
  init (Braces xs) = items xs

  declarators : (ds : List Dec) → DeclaratorsCallNoTry names ds
  declarators [] = tt
  declarators (d ∷ ds) = (init d.init, declarators ds)

  start : (x : Start) → StartCallsNoTry names x
  start NoStart = tt
  start (Begin e) = exp e
  start (Declare ds) = declarators ds

  mutual
    pub stm : (x : Stm) → StatementCallsNoTry names x
    stm (Block xs end) = stms xs
    stm (Decl ds) = declarators ds
    stm (Evaluate e) = exp_if e
    stm (If p e x) = (exp e, stm x)
    stm (IfElse p e x y) = (exp e, stm x, stm y)
    stm (While p e x) = (exp e, stm x)
    stm (Do p x e) = (stm x, exp e)
    stm (For p f c n x) = (start f, exp_if c, exp_if n, stm x)
    stm (Switch p e xs) = (exp e, stms xs)
    stm (Case n e) = exp e
    stm Default = tt
    stm (Goto p n) = tt
    stm Break = tt
    stm Continue = tt
    stm (Return p e) = exp_if e
    stm (Label n x) = stm x

    pub stms : (xs : Stms) → StatementsCallNoTry names xs
    stms NoStms = tt
    stms (Stms' x xs) = (stm x, stms xs)

pub unnamed : (p : Program) → NoNameTries p.names → ProgramCallsNoTry p
unnamed p h f = stm p.names h (own (structs_of p) (slice_get p.functions f)).body
