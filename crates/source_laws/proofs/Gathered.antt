-- What the text of a function names, with names that come later and without them.
use Rattle.std.proofs.Common.{◌≡◌, List, [], ◌∷◌, length, refl}
use Rattle.std.specs.Prelude.{Option, Some, None}
use Rattle.sc_world.specs.Tree.{Exp, Comma, Assign, Cond, Binary, Cast, Unary, PreInc, PostInc, SizeofExpr, SizeofType, Index, Call, Field, Param, Local, Global, Function, Number, Str, Convert, Temp, TempPlace, Exps, NoExps, Exps', Given, Init, NoInit, One, Braces, Dec, Start, NoStart, Begin, Declare, Stm, Block, Decl, Evaluate, If, IfElse, While, Do, For, Switch, Case, Default, Goto, Break, Continue, Return, Label, Stms, NoStms, Stms', target}
use Rattle.sc_world.specs.Build.{◌>>=◌}
use Rattle.sc_world.specs.Source.{Source}
use Rattle.sc_world.specs.Gather.{Stands, Plain, Named, GivenAs, Round, within, tested, nodes, field_name, call_site, object_of, as_given, gather, gather_all, gather_items, gather_init, gather_declared, gather_declarators, gather_if, gather_start, gather_stm, gather_stms, gather_sums, gather_function, once}
use Rattle.source_laws.specs.Named.{Tables, with_tables, IsFront, SignaturesAgree, CallsBelow, AllCallBelow, CallsBelowIf, ItemsCallBelow, InitCallsBelow, DeclaratorsCallBelow, StartCallsBelow, StatementCallsBelow, StatementsCallBelow}
use Rattle.source_laws.proofs.Names.{effect_same}

module _ (old new : Tables) (front : IsFront old.names new.names) (s : Source) (agree : SignaturesAgree old new s) where
  abbrev one : Source
  one = with_tables s old

  abbrev other : Source
  other = with_tables s new

  mutual
    gather_same : (e : Exp) (h : Stands) (r : Round) → CallsBelow (length old.names) e → gather one e h r ≡ gather other e h r
    gather_same (Comma a b t) h r c = λ i. do
      _ ← nodes r.factor
      _ ← gather_same a Plain r c.0 i
      gather_same b Plain r c.1 i
    gather_same (Assign o w a b t) h r c = λ i. do
      _ ← nodes r.factor
      _ ← gather_same a Plain r c.0 i
      gather_same b (as_given b) r c.1 i
    gather_same (Cond a b d t) h r c = λ i. do
      _ ← nodes r.factor
      _ ← gather_same a Plain r c.0 i
      _ ← gather_same b Plain r c.1 i
      gather_same d Plain r c.2 i
    gather_same (Binary o a b t) h r c = λ i. do
      _ ← nodes r.factor
      _ ← gather_same a Plain r c.0 i
      gather_same b Plain r c.1 i
    gather_same (Cast a t) h r c = λ i. do
      _ ← nodes r.factor
      gather_same a (GivenAs (target t)) r c i
    gather_same (Unary o a t) h r c = λ i. do
      _ ← nodes r.factor
      gather_same a Plain r c i
    gather_same (PreInc d a t) h r c = λ i. do
      _ ← nodes r.factor
      gather_same a Plain r c i
    gather_same (PostInc d a t) h r c = λ i. do
      _ ← nodes r.factor
      gather_same a Plain r c i
    gather_same (SizeofExpr a n t) h r c = λ i. do
      _ ← nodes r.factor
      gather_same a Named r c i
    gather_same (SizeofType n t) h r c = refl
    gather_same (Index a b t) h r c = λ i. do
      _ ← nodes r.factor
      _ ← gather_same a Plain r c.0 i
      gather_same b Plain r c.1 i
    gather_same (Call p f es t) h r c = λ i. do
      _ ← nodes r.factor
      _ ← gather_same f Named r c.1 i
      _ ← gather_all_same es r c.2 i
      call_site (record { pos = p.first; bracket = p.token; turns = r.turns; effect = effect_same old new front s agree f es t c.0 i; result = t; object = object_of h t })
    gather_same (Field a n arrow t) h r c = λ i. do
      _ ← nodes r.factor
      _ ← gather_same a Plain r c i
      field_name n
    gather_same (Param n t) h r c = refl
    gather_same (Local n t) h r c = refl
    gather_same (Global n t) h r c = refl
    gather_same (Function n b t) h r c = refl
    gather_same (Number n t) h r c = refl
    gather_same (Str p t) h r c = refl
    gather_same (Convert a t) h r c = gather_same a h r c
    gather_same (Temp n t) h r c = refl
    gather_same (TempPlace n t) h r c = refl

    gather_all_same : (es : Exps) (r : Round) → AllCallBelow (length old.names) es → gather_all one es r ≡ gather_all other es r
    gather_all_same NoExps r c = refl
    gather_all_same (Exps' e es) r c = λ i. do
      _ ← gather_same e Plain r c.0 i
      gather_all_same es r c.1 i

  gather_items_same : (xs : List Given) (r : Round) → ItemsCallBelow (length old.names) xs → gather_items one xs r ≡ gather_items other xs r
  gather_items_same [] r c = refl
  gather_items_same (x ∷ xs) r c = λ i. do
    _ ← gather_same x.value (as_given x.value) r c.0 i
    gather_items_same xs r c.1 i

  gather_init_same : (x : Init) (r : Round) → InitCallsBelow (length old.names) x → gather_init one x r ≡ gather_init other x r
  gather_init_same NoInit r c = refl
  gather_init_same (One e) r c = gather_same e (as_given e) r c
  gather_init_same (Braces xs) r c = gather_items_same xs r c

  gather_declarators_same : (ds : List Dec) (r : Round) → DeclaratorsCallBelow (length old.names) ds
      → gather_declarators one ds r ≡ gather_declarators other ds r
  gather_declarators_same [] r c = refl
  gather_declarators_same (d ∷ ds) r c = λ i. do
    _ ← nodes r.factor
    _ ← gather_declared one d.declared
    _ ← gather_init_same d.init r c.0 i
    gather_declarators_same ds r c.1 i

  gather_if_same : (e : Option Exp) (r : Round) → CallsBelowIf (length old.names) e → gather_if one e r ≡ gather_if other e r
  gather_if_same None r c = refl
  gather_if_same (Some e) r c = gather_same e Plain r c

  gather_start_same : (x : Start) (r : Round) → StartCallsBelow (length old.names) x → gather_start one x r ≡ gather_start other x r
  gather_start_same NoStart r c = refl
  gather_start_same (Begin e) r c = gather_same e Plain r c
  gather_start_same (Declare ds) r c = λ i. do
    _ ← nodes r.factor
    gather_declarators_same ds r c i

  mutual
    gather_stm_same : (x : Stm) (r : Round) → StatementCallsBelow (length old.names) x → gather_stm one x r ≡ gather_stm other x r
    gather_stm_same (Block xs end) r c = λ i. do
      _ ← nodes r.factor
      gather_stms_same xs r c i
    gather_stm_same (Decl ds) r c = λ i. do
      _ ← nodes r.factor
      gather_declarators_same ds r c i
    gather_stm_same (Evaluate e) r c = λ i. do
      _ ← nodes r.factor
      gather_if_same e r c i
    gather_stm_same (If p e x) r c = λ i. do
      _ ← nodes r.factor
      _ ← gather_same e Plain r c.0 i
      gather_stm_same x r c.1 i
    gather_stm_same (IfElse p e x y) r c = λ i. do
      _ ← nodes r.factor
      _ ← gather_same e Plain r c.0 i
      _ ← gather_stm_same x r c.1 i
      gather_stm_same y r c.2 i
    gather_stm_same (While p e x) r c = λ i. do
      _ ← nodes r.factor
      _ ← gather_same e Plain (tested s.depth r) c.0 i
      gather_stm_same x (within s.depth r) c.1 i
    gather_stm_same (Do p x e) r c = λ i. do
      _ ← nodes r.factor
      _ ← gather_stm_same x (within s.depth r) c.0 i
      gather_same e Plain (within s.depth r) c.1 i
    gather_stm_same (For p f d n x) r c = λ i. do
      _ ← nodes r.factor
      _ ← gather_start_same f r c.0 i
      _ ← gather_if_same d (tested s.depth r) c.1 i
      _ ← gather_if_same n (within s.depth r) c.2 i
      gather_stm_same x (within s.depth r) c.3 i
    gather_stm_same (Switch p e xs) r c = λ i. do
      _ ← nodes r.factor
      _ ← gather_same e Plain r c.0 i
      gather_stms_same xs r c.1 i
    gather_stm_same (Case n e) r c = gather_same e Plain r c
    gather_stm_same Default r c = refl
    gather_stm_same (Goto p n) r c = refl
    gather_stm_same Break r c = refl
    gather_stm_same Continue r c = refl
    gather_stm_same (Return p None) r c = refl
    gather_stm_same (Return p (Some e)) r c = λ i. do
      _ ← nodes r.factor
      gather_same e (as_given e) r c i
    gather_stm_same (Label n x) r c = λ i. do
      _ ← nodes r.factor
      gather_stm_same x r c i

    gather_stms_same : (xs : Stms) (r : Round) → StatementsCallBelow (length old.names) xs → gather_stms one xs r ≡ gather_stms other xs r
    gather_stms_same NoStms r c = refl
    gather_stms_same (Stms' x xs) r c = λ i. do
      _ ← gather_stm_same x r c.0 i
      gather_stms_same xs r c.1 i

pub gather_function_same : (old new : Tables) → IsFront old.names new.names → (s : Source) → SignaturesAgree old new s → StatementCallsBelow (length old.names) s.body
    → gather_function (with_tables s old) ≡ gather_function (with_tables s new)
gather_function_same old new front s agree c = λ i. do
  _ ← gather_stm_same old new front s agree s.body (once s) c i
  gather_sums s s.sums
