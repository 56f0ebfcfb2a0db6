-- What is kept while a graph grows: the kinds of its temps and slots. New ones are added at the end, and what fits the
-- old ones fits the new ones too.
use Rattle.std.proofs.Common.{◌≡◌, ℕ, zero, suc, ◌+◌, Bool, true, false, List, [], ◌∷◌, ◌++◌, length, refl, ap, ◌∙◌, inl, inr, arith}
use Rattle.std.specs.Prelude.{Some, None, slice_get}
use Rattle.sc_tree.specs.declared.op.UnaryOp.TheVariants as sign
use Rattle.sc_world.specs.Tree.{Ty, Exp, Comma, Assign, Cond, Binary, Cast, Unary, PreInc, PostInc, SizeofExpr, SizeofType, Index, Call, Field, Param, Local, Global, Function, Number, Str, Convert, Temp, TempPlace, Exps, NoExps, Exps', type_of, Given}
use Rattle.sc_world.specs.Source.{Source}
use Rattle.sc_world.specs.Layout.{Layout}
use Rattle.sc_world.specs.Eval.{Want, Value, Place'}
use Rattle.run_laws.specs.Fits.{if_scalar, unless_array}
use Rattle.flow_graph.specs.Nodes.{Node, Keep, KeepCells, CallOf, Update, Updating, Set, Fill, Branch, Choose, Mark, MarkSwitch, Exit, SetAside}
use Rattle.flow_graph.specs.Growing.{Growing, Build, put, fresh}
use Rattle.flow_types.specs.Kinds.{Kind, ValueOf, PlaceOf, Kinds, IsKept, KeepsSome, IsFor, FitsOver}
use Rattle.flow_types.specs.Nodes.{KeepArguments, KeepParts, KeepsOperand, local, NodeFits, AllFit}

get_more : {A : Type 0} (xs ys : List A) (n : ℕ) (x : A) → slice_get xs n ≡ Some x → slice_get (xs ++ ys) n ≡ Some x
get_more [] ys n x h = absurd (cc h)
get_more (z ∷ xs) ys zero x h = h
get_more (z ∷ xs) ys (suc n) x h = get_more xs ys n x h

pub get_last : {A : Type 0} (xs : List A) (x : A) (n : ℕ) → length xs ≡ n → slice_get (xs ++ x ∷ []) n ≡ Some x
get_last [] x zero h = refl
get_last [] x (suc n) h = absurd (omega (arith, h))
get_last (z ∷ xs) x zero h = absurd (omega (arith, h))
get_last (z ∷ xs) x (suc n) h = get_last xs x n (omega (arith, h))

pub length_last : {A : Type 0} (xs : List A) (x : A) → length (xs ++ x ∷ []) ≡ length xs + 1
length_last [] x = refl
length_last (z ∷ xs) x = omega (arith, length_last xs x)

-- what the one keeps the other keeps
pub record Extends (k l : Kinds) : Type 0 where
  pub temps : (n : ℕ) (x : Kind) → slice_get k.temps n ≡ Some x → slice_get l.temps n ≡ Some x
  pub slots : (n : ℕ) (t : Ty) → slice_get k.slots n ≡ Some t → slice_get l.slots n ≡ Some t

pub extends_refl : (k : Kinds) → Extends k k
extends_refl k = record { temps = λ n x h. h; slots = λ n t h. h }

pub extends_trans : {k l m : Kinds} → Extends k l → Extends l m → Extends k m
extends_trans a b = record { temps = λ n x h. b.temps n x (a.temps n x h); slots = λ n t h. b.slots n t (a.slots n t h) }

-- one temp more, and one slot more
abbrev pub with_temp : Kinds → Kind → Kinds
with_temp k x = record { temps = k.temps ++ x ∷ []; slots = k.slots }

abbrev pub with_slot : Kinds → Ty → Kinds
with_slot k t = record { temps = k.temps; slots = k.slots ++ t ∷ [] }

pub extends_temp : (k : Kinds) (x : Kind) → Extends k (with_temp k x)
extends_temp k x = record { temps = λ n y h. get_more k.temps (x ∷ []) n y h; slots = λ n t h. h }

pub extends_slot : (k : Kinds) (t : Ty) → Extends k (with_slot k t)
extends_slot k t = record { temps = λ n x h. h; slots = λ n u h. get_more k.slots (t ∷ []) n u h }

pub some_on : {k l : Kinds} → Extends k l → (sort : Ty → Bool) (n : ℕ) → KeepsSome k sort n → KeepsSome l sort n
some_on e sort n (t, h, i) = (t, e.temps n (ValueOf t) h, i)

pub for_on : {k l : Kinds} → Extends k l → (want : Want) (t : Ty) (n : ℕ) → IsFor k want t n → IsFor l want t n
for_on e Value t n h = e.temps n (ValueOf t) h
for_on e Place' t n (inl h) = inl (e.temps n (PlaceOf t) h)
for_on e Place' t n (inr (u, h, i)) = inr (u, e.temps n (ValueOf u) h, i)

-- what keeps a value is for a value, and what keeps a place for a place
abbrev pub kind_of : Want → Ty → Kind
kind_of Value t = ValueOf t
kind_of Place' t = PlaceOf t

pub for_kind : (k : Kinds) (want : Want) (t : Ty) (n : ℕ) → IsKept k n (kind_of want t) → IsFor k want t n
for_kind k Value t n h = h
for_kind k Place' t n h = inl h

module _ (p : Layout) {k l : Kinds} (x : Extends k l) where
  pub over_on : (want : Want) (e : Exp) → FitsOver k p want e → FitsOver l p want e
  over_on want (Comma a b t) h = (over_on Value a h.0, over_on want b h.1, h.2)
  over_on want (Assign None works a b t) h = (over_on Place' a h.0, over_on (if_scalar t) b h.1, h.2, h.3)
  over_on want (Assign (Some o) works a b t) h = (over_on Place' a h.0, over_on Value b h.1, h.2, h.3, h.4, h.5, h.6)
  over_on want (Cond a b c t) h = h
  over_on want (Binary o a b t) h = (over_on Value a h.0, over_on Value b h.1, h.2, h.3, h.4, h.5)
  over_on want (Cast a t) h = (over_on (unless_array (type_of a)) a h.0, h.1, h.2)
  over_on want (Unary sign.Address a t) h = (over_on Place' a h.0, h.1, h.2)
  over_on want (Unary sign.Deref a t) h = (over_on Value a h.0, h.1)
  over_on want (Unary sign.Not a t) h = (over_on Value a h.0, h.1, h.2, h.3)
  over_on want (Unary sign.Plus a t) h = (over_on Value a h.0, h.1, h.2, h.3)
  over_on want (Unary sign.Minus a t) h = (over_on Value a h.0, h.1, h.2, h.3)
  over_on want (Unary sign.Complement a t) h = (over_on Value a h.0, h.1, h.2, h.3)
  over_on want (PreInc d a t) h = (over_on Place' a h.0, h.1, h.2, h.3)
  over_on want (PostInc d a t) h = (over_on Place' a h.0, h.1, h.2, h.3)
  over_on want (SizeofExpr a n t) h = h
  over_on want (SizeofType n t) h = h
  over_on want (Index a b t) h = (over_on (unless_array (type_of a)) a h.0, over_on Value b h.1, h.2, h.3)
  over_on want (Call q f es t) h = h
  over_on want (Field a n true t) h = (over_on Value a h.0, h.1, h.2)
  over_on want (Field a n false t) h = (over_on Place' a h.0, h.1)
  over_on want (Param n t) h = h
  over_on want (Local n t) h = h
  over_on want (Global n t) h = h
  over_on want (Function n b t) h = h
  over_on want (Number n t) h = h
  over_on want (Str q t) h = h
  over_on want (Convert a t) h = (over_on (unless_array (type_of a)) a h.0, h.1, h.2)
  over_on want (Temp n t) h = (h.0, x.temps n (ValueOf t) h.1)
  over_on want (TempPlace n t) h = x.temps n (PlaceOf t) h

module _ (s : Source) (p : Layout) where
  module _ {k l : Kinds} (x : Extends k l) where
    arguments_on : (ns : List ℕ) (es : Exps) → KeepArguments s p k ns es → KeepArguments s p l ns es
    arguments_on [] NoExps h = h
    arguments_on [] (Exps' e es) h = h
    arguments_on (n ∷ ns) NoExps h = h
    arguments_on (n ∷ ns) (Exps' e es) h = (x.temps n (ValueOf (type_of e)) h.0, arguments_on ns es h.1)

    parts_on : (at : ℕ) (ns : List ℕ) (xs : List Given) → KeepParts s p k at ns xs → KeepParts s p l at ns xs
    parts_on at [] [] h = h
    parts_on at [] (y ∷ ys) h = h
    parts_on at (n ∷ ns) [] h = h
    parts_on at (n ∷ ns) (y ∷ ys) h = (x.slots n (type_of y.value) h.0, h.1, parts_on at ns ys h.2)

    operand_on : (u : Updating) (n : ℕ) → KeepsOperand s p k u n → KeepsOperand s p l u n
    operand_on u n (t, h, i, m) = (t, x.temps n (ValueOf t) h, i, m)

    node_on : (n : Node) → NodeFits s p k n → NodeFits s p l n
    node_on (Keep want t e next) h = (over_on p x want e h.0, for_on x want (type_of e) t h.1)
    node_on (KeepCells n e next) h = (over_on p x (if_scalar (type_of e)) e h.0, x.slots n (type_of e) h.1)
    node_on (CallOf c args t next) (es, h, i, j, m) =
        (es, arguments_on args es h, i, j, x.temps t (ValueOf c.result) m)
    node_on (Update u want at old right t next) h = (
      x.temps at (PlaceOf u.ctype) h.0,
      x.temps old (ValueOf u.ctype) h.1,
      operand_on u right h.2,
      h.3,
      h.4,
      for_on x want u.ctype t h.5,
    )
    node_on (Set n e next) h = (h.0, over_on p x (if_scalar (type_of e)) e h.1, h.2)
    node_on (Fill n xs slots next) h = (h.0, parts_on (local s p k n) slots xs h.1)
    node_on (Branch t hit miss) h = some_on x _ t h
    node_on (Choose t n hit miss) h = some_on x _ t h
    node_on (Mark q y next) h = h
    node_on (MarkSwitch q t from next) h = (x.temps from (ValueOf t) h.0, h.1)
    node_on (Exit None) h = h
    node_on (Exit (Some t)) h = x.temps t (ValueOf s.result) h
    node_on (SetAside r) h = h

    pub all_on : (ns : List Node) → AllFit s p k ns → AllFit s p l ns
    all_on [] h = tt
    all_on (n ∷ ns) h = (node_on n h.0, all_on ns h.1)

  -- the kinds of a graph while it grows
  pub record Good (k : Kinds) (g : Growing) : Type 0 where
    pub temps : length k.temps ≡ g.temps
    pub slots : length k.slots ≡ g.slots
    pub nodes : AllFit s p k g.nodes

  -- a graph that grew from one with these kinds
  pub record Made (k : Kinds) (g : Growing) : Type 0 where
    pub kinds : Kinds
    pub more : Extends k kinds
    pub good : Good kinds g

  pub made : {k : Kinds} {g : Growing} → Good k g → Made k g
  made {k} h = record { kinds = k; more = extends_refl k; good = h }

  pub from : {k l : Kinds} {g : Growing} → Extends k l → Made l g → Made k g
  from x m = record { kinds = m.kinds; more = extends_trans x m.more; good = m.good }

  -- one node more, and one temp more
  pub good_put : {k : Kinds} {g : Growing} (n : Node) → NodeFits s p k n → Good k g → Good k (put n g).1
  good_put n h w = record { temps = w.temps; slots = w.slots; nodes = (h, w.nodes) }

  pub good_temp : {k : Kinds} {g : Growing} (x : Kind) → Good k g → Good (with_temp k x) (fresh 1 g).1
  good_temp {k} {g} x w = record {
    temps = length_last k.temps x ∙ ap (λ n. n + 1) w.temps;
    slots = w.slots;
    nodes = all_on (extends_temp k x) g.nodes w.nodes;
  }

  pub kept_last : {k : Kinds} {g : Growing} (x : Kind) → Good k g → IsKept (with_temp k x) g.temps x
  kept_last {k} {g} x w = get_last k.temps x g.temps w.temps

  -- one step after another
  pub via : {k : Kinds} {g h : Growing} → Made k g → ((l : Kinds) → Extends k l → Good l g → Made l h) → Made k h
  via m f = from m.more (f m.kinds m.more m.good)

  -- a step after which all nodes fit as before
  abbrev pub Steps : {A : Type 0} → Build A → Type 0
  Steps m = (g : Growing) (k : Kinds) → Good k g → Made k (m g).1
