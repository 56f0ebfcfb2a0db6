-- All expressions.
use Rattle.std.proofs.Common.{◌≡◌, ℕ, ◌+◌, Bool, true, false, ◌&&◌, ◌||◌, length, refl, sym, ap, subst, ◌∙◌, arith}
use Rattle.std.specs.Prelude.{Some, None, if◌then◌else◌}
use Rattle.std.proofs.lemmas.Bool.{false≢true}
use Rattle.sc_tree.specs.declared.op.BinaryOp.{BinaryOp}
use Rattle.sc_tree.specs.declared.op.UnaryOp.TheVariants as sign
use Rattle.sc_tree.specs.declared.expr.Place.{Place}
use Rattle.sc_world.specs.Tree.{Ty, is_integer, is_pointer, is_array, Exp, Comma, Assign, Cond, Binary, Cast, Unary, PreInc, PostInc, SizeofExpr, SizeofType, Index, Call, Field, Param, Local, Global, Function, Number, Str, Convert, Temp, TempPlace, Exps, NoExps, Exps', type_of}
use Rattle.sc_world.specs.Source.{Source}
use Rattle.sc_world.specs.Layout.{Layout, same_pos, site_at}
use Rattle.sc_world.specs.Eval.{Want, Value, Place', is_name, is_logical}
use Rattle.run_laws.specs.Fits.{Fits, FitAll, Unless, CallFits, Indexed, compares_pointers, operands_fit, TypesMeet, converts_to, is_scalar, if_scalar, unless_array, IsRead}
use Rattle.flow_graph.specs.Nodes.{Node, CallOf}
use Rattle.flow_graph.specs.Growing.{Growing, Build, put, fresh, numbers}
use Rattle.flow_graph.specs.Expressions.{Part, Goal, kept, one, two, comma, logical, assigning, binary, converted, unary, indexed, called, count, unroll, unroll_all}
use Rattle.flow_types.specs.Kinds.{ValueOf, Kinds}
use Rattle.flow_types.specs.Nodes.{KeepArguments}
use Rattle.flow_types.proofs.Kept as kept
use Rattle.flow_types.proofs.Kept.{Extends, extends_refl, extends_trans, with_temp, extends_temp, for_on, kind_of, get_last, length_last}
use Rattle.flow_types.proofs.Parts as parts
use Rattle.flow_types.proofs.Parts.{typed_goal, kept_typed, plainly_typed, one_typed, two_typed, updating_typed, address_typed, called_typed, comma_typed, conditional_typed, logical_typed}

left_of : (a b : Bool) → (a && b) ≡ true → a ≡ true
left_of true b h = refl
left_of false b h = h

right_of : (a b : Bool) → (a && b) ≡ true → b ≡ true
right_of true b h = h
right_of false b h = absurd (false≢true h)

scalars_of : (o : BinaryOp) (t u : Ty) → is_logical o ≡ true → operands_fit o t u ≡ true → (is_scalar t && is_scalar u) ≡ true
scalars_of o t u is h =
    subst (λ c. (if c then is_scalar t && is_scalar u
    else ((is_integer t && is_integer u) || (compares_pointers o && (is_pointer t && is_pointer u)))) ≡ true) is h

-- temps for arguments
abbrev with_all : Kinds → Exps → Kinds
with_all k NoExps = k
with_all k (Exps' e es) = with_all (with_temp k (ValueOf (type_of e))) es

extends_all : (k : Kinds) (es : Exps) → Extends k (with_all k es)
extends_all k NoExps = extends_refl k
extends_all k (Exps' e es) =
    extends_trans (extends_temp k (ValueOf (type_of e))) (extends_all (with_temp k (ValueOf (type_of e))) es)

module _ (s : Source) (p : Layout) where
  abbrev Good : Kinds → Growing → Type 0
  Good = kept.Good s p

  abbrev Made : Kinds → Growing → Type 0
  Made = kept.Made s p

  abbrev Typed : Want → Ty → Part → Type 0
  Typed = parts.Typed s p

  all_kept : (k : Kinds) (es : Exps) (n : ℕ) → length k.temps ≡ n → KeepArguments s p (with_all k es) (numbers n (count es)) es
  all_kept k NoExps n h = tt
  all_kept k (Exps' e es) n h =
      let l : Kinds = with_temp k (ValueOf (type_of e)) in (
        (extends_all l es).temps n (ValueOf (type_of e)) (get_last k.temps (ValueOf (type_of e)) n h),
        all_kept l es (n + 1) (length_last k.temps (ValueOf (type_of e)) ∙ ap (λ m. m + 1) h),
      )

  good_all : (k : Kinds) (es : Exps) (g : Growing) → Good k g → Good (with_all k es) (fresh (count es) g).1
  good_all k NoExps g w = record { temps = omega (arith, w.temps); slots = w.slots; nodes = w.nodes }
  good_all k (Exps' e es) g w =
      let o : Good (with_all (with_temp k (ValueOf (type_of e))) es) (fresh (count es) (fresh 1 g).1).1 =
      good_all (with_temp k (ValueOf (type_of e))) es (fresh 1 g).1 (kept.good_temp s p (ValueOf (type_of e)) w) in
      record { temps = omega (arith, o.temps); slots = o.slots; nodes = o.nodes }

  -- Operators, by what their types decide.
  assign_typed : (c : Bool) (want : Want) (works : Ty) (a b : Exp) (t : Ty) (l r : Part) → is_scalar t ≡ c → type_of a ≡ t → type_of b ≡ t
      → Typed Place' (type_of a) l → Typed (if c then Value else Place') (type_of b) r
      → Typed want t (if c then two Place' l Value r (λ x y. Assign None works (TempPlace x (type_of a)) (Temp y (type_of b)) t)
      else two Place' l Place' r (λ x y. Assign None works (TempPlace x (type_of a)) (TempPlace y (type_of b)) t))
  assign_typed true want works a b t l r is left right ol or' =
      two_typed s p want t Place' (type_of a) l Value (type_of b) r
      (λ x y. Assign None works (TempPlace x (type_of a)) (Temp y (type_of b)) t) (λ x y. refl)
      (λ k x y h i. (h, (subst (λ c. IsRead (if c then Value else Place')) (sym is) tt, i), left, right)) ol or'
  assign_typed false want works a b t l r is left right ol or' =
      two_typed s p want t Place' (type_of a) l Place' (type_of b) r
      (λ x y. Assign None works (TempPlace x (type_of a)) (TempPlace y (type_of b)) t) (λ x y. refl)
      (λ k x y h i. (h, i, left, right)) ol or'

  binary_typed : (c : Bool) (o : BinaryOp) (a b : Exp) (t : Ty) (l r : Part) → is_logical o ≡ c → is_integer t ≡ true
      → operands_fit o (type_of a) (type_of b) ≡ true → TypesMeet o (type_of a) (type_of b) t → Typed Value (type_of a) l → Typed Value (type_of b) r
      → Typed Value t (if c then logical o t l r else two Value l Value r (λ x y. Binary o (Temp x (type_of a)) (Temp y (type_of b)) t))
  binary_typed true o a b t l r is sort fit meet ol or' =
      let scalars : (is_scalar (type_of a) && is_scalar (type_of b)) ≡ true = scalars_of o (type_of a) (type_of b) is fit in
      logical_typed s p o t (type_of a) (type_of b) l r sort (left_of (is_scalar (type_of a)) (is_scalar (type_of b)) scalars)
      (right_of (is_scalar (type_of a)) (is_scalar (type_of b)) scalars) ol or'
  binary_typed false o a b t l r is sort fit meet ol or' =
      two_typed s p Value t Value (type_of a) l Value (type_of b) r (λ x y. Binary o (Temp x (type_of a)) (Temp y (type_of b)) t)
      (λ x y. refl) (λ k x y h i. ((tt, h), (tt, i), tt, sort, fit, meet)) ol or'

  cast_typed : (c : Bool) (a : Exp) (t : Ty) (l : Part) → is_array (type_of a) ≡ c → converts_to (type_of a) t ≡ true
      → Typed (if c then Place' else Value) (type_of a) l
      → Typed Value t (if c then one Place' l (λ x. Cast (TempPlace x (type_of a)) t) else one Value l (λ x. Cast (Temp x (type_of a)) t))
  cast_typed true a t l is fit o =
      one_typed s p Value t Place' (type_of a) l (λ x. Cast (TempPlace x (type_of a)) t) (λ x. refl) (λ k x h. (h, tt, fit)) o
  cast_typed false a t l is fit o =
      one_typed s p Value t Value (type_of a) l (λ x. Cast (Temp x (type_of a)) t) (λ x. refl)
      (λ k x h. ((subst (λ c. IsRead (if c then Place' else Value)) (sym is) tt, h), tt, fit)) o

  convert_typed : (c : Bool) (a : Exp) (t : Ty) (l : Part) → is_array (type_of a) ≡ c → converts_to (type_of a) t ≡ true
      → Typed (if c then Place' else Value) (type_of a) l
      → Typed Value t (if c then one Place' l (λ x. Convert (TempPlace x (type_of a)) t)
      else one Value l (λ x. Convert (Temp x (type_of a)) t))
  convert_typed true a t l is fit o =
      one_typed s p Value t Place' (type_of a) l (λ x. Convert (TempPlace x (type_of a)) t) (λ x. refl) (λ k x h. (h, tt, fit)) o
  convert_typed false a t l is fit o =
      one_typed s p Value t Value (type_of a) l (λ x. Convert (Temp x (type_of a)) t) (λ x. refl)
      (λ k x h. ((subst (λ c. IsRead (if c then Place' else Value)) (sym is) tt, h), tt, fit)) o

  index_typed : (c : Bool) (want : Want) (a b : Exp) (t : Ty) (l r : Part) → is_array (type_of a) ≡ c → is_integer (type_of b) ≡ true
      → Indexed p (is_array (type_of a)) (type_of a) t → Typed (if c then Place' else Value) (type_of a) l → Typed Value (type_of b) r
      → Typed want t (if c then two Place' l Value r (λ x y. Index (TempPlace x (type_of a)) (Temp y (type_of b)) t)
      else two Value l Value r (λ x y. Index (Temp x (type_of a)) (Temp y (type_of b)) t))
  index_typed true want a b t l r is sort fit ol or' =
      two_typed s p want t Place' (type_of a) l Value (type_of b) r (λ x y. Index (TempPlace x (type_of a)) (Temp y (type_of b)) t)
      (λ x y. refl) (λ k x y h i. (h, (tt, i), sort, fit)) ol or'
  index_typed false want a b t l r is sort fit ol or' =
      two_typed s p want t Value (type_of a) l Value (type_of b) r (λ x y. Index (Temp x (type_of a)) (Temp y (type_of b)) t)
      (λ x y. refl) (λ k x y h i. ((subst (λ c. IsRead (if c then Place' else Value)) (sym is) tt, h), (tt, i), sort, fit)) ol or'

  -- arguments, each in its temp
  abbrev Arguments : Exps → ((x next : ℕ) → Build ℕ) → Type 0
  Arguments es q =
      (x next : ℕ) (g : Growing) (k : Kinds) → Good k g → KeepArguments s p k (numbers x (count es)) es → Made k (q x next g).1

  argument_typed : (e : Exp) (es : Exps) (turn : ℕ) → Typed Value (type_of e) (unroll e turn)
      → Arguments es (λ x next. unroll_all es turn x next) → Arguments (Exps' e es) (λ x next. unroll_all (Exps' e es) turn x next)
  argument_typed e es turn o os x next g k w h =
      kept.via s p (os (x + 1) next g k w h.1)
      (λ l more v. o.into x (unroll_all es turn (x + 1) next g).0 (unroll_all es turn (x + 1) next g).1 l v
      (more.temps x (ValueOf (type_of e)) h.0))

  call_typed : (q : Place) (f : Exp) (es : Exps) (t : Ty) (turn : ℕ) → same_pos q.token (site_at p q.token).site.bracket ≡ true
      → CallFits es t (site_at p q.token).site.effect → (is_name f ≡ false → Typed Value (type_of f) (unroll f turn))
      → Arguments es (λ x next. unroll_all es turn x next) → Typed Value t (unroll (Call q f es t) turn)
  call_typed q f es t turn bracket fit of os =
      typed_goal s p Value t (λ j g. called (is_name f) (unroll f turn) (arguments j g).0 (arguments j g).1)
      (λ x next g k w h.
      let j : Goal = record { want = Value; temp = x; next = next } in
      let l : Kinds = with_all k es in
      let here : KeepArguments s p l (numbers g.temps (count es)) es = all_kept k es g.temps w.temps in
      kept.from s p (extends_all k es)
      (kept.via s p
      (os g.temps (length g.nodes) (behind j g) l
      (kept.good_put s p (node j g) (es, here, fit, bracket, (extends_all k es).temps x (ValueOf t) h) (good_all k es g w)) here)
      (λ m more o. called_typed s p (is_name f) (type_of f) (unroll f turn) of (arguments j g).0 (arguments j g).1 m o)))
    where
      node : Goal → Growing → Node
      node j g = CallOf (record { place = q; callee = f; result = t; turn = turn }) (numbers g.temps (count es)) j.temp j.next

      behind : Goal → Growing → Growing
      behind j g = (put (node j g) (fresh (count es) g).1).1

      arguments : Goal → Build ℕ
      arguments j g = unroll_all es turn g.temps (length g.nodes) (behind j g)

  -- what is read only is no place
  read_typed : (want : Want) (t : Ty) (q : Part) → IsRead want → Typed Value t q → Typed want t q
  read_typed Value t q h o = o
  read_typed Place' t q h o = absurd h

  -- what is called, where it is no name
  callee_typed : (c : Bool) (f : Exp) (turn : ℕ) → Unless c (Fits p Value f) → (Fits p Value f → Typed Value (type_of f) (unroll f turn))
      → c ≡ false → Typed Value (type_of f) (unroll f turn)
  callee_typed true f turn h o is = absurd (false≢true (sym is))
  callee_typed false f turn h o is = o h

  mutual
    pub expression_typed : (e : Exp) (turn : ℕ) (want : Want) → Fits p want e → Typed want (type_of e) (unroll e turn)
    expression_typed (Comma a b t) turn want h =
        plainly_typed s p want (Comma a b t) (comma (unroll a turn) (unroll b turn)) h
        (comma_typed s p want t (type_of a) (unroll a turn) (unroll b turn) (expression_typed a turn Value h.0)
        (subst (λ z. Typed want z (unroll b turn)) h.2 (expression_typed b turn want h.1)))
    expression_typed (Assign None works a b t) turn want h =
        plainly_typed s p want (Assign None works a b t) (assigning None works a b t (unroll a turn) (unroll b turn)) h
        (assign_typed (is_scalar t) want works a b t (unroll a turn) (unroll b turn) refl h.2 h.3 (expression_typed a turn Place' h.0)
        (expression_typed b turn (if_scalar t) h.1))
    expression_typed (Assign (Some o) works a b t) turn want h =
        plainly_typed s p want (Assign (Some o) works a b t) (assigning (Some o) works a b t (unroll a turn) (unroll b turn)) h
        (updating_typed s p (record { op = o; works = works; ctype = t }) want (type_of b) (unroll a turn) (unroll b turn) h.3 h.4 h.5 h.6
        (subst (λ z. Typed Place' z (unroll a turn)) h.2 (expression_typed a turn Place' h.0)) (expression_typed b turn Value h.1))
    expression_typed (Cond c a b t) turn want h =
        conditional_typed s p want t (type_of c) (unroll c turn) (unroll a turn) (unroll b turn) h.3 (expression_typed c turn Value h.0)
        (subst (λ z. Typed want z (unroll a turn)) h.4 (expression_typed a turn want h.1))
        (subst (λ z. Typed want z (unroll b turn)) h.5 (expression_typed b turn want h.2))
    expression_typed (Binary o a b t) turn want h =
        plainly_typed s p want (Binary o a b t) (binary o a b t (unroll a turn) (unroll b turn)) h
        (read_typed want t (binary o a b t (unroll a turn) (unroll b turn)) h.2
        (binary_typed (is_logical o) o a b t (unroll a turn) (unroll b turn) refl h.3 h.4 h.5 (expression_typed a turn Value h.0)
        (expression_typed b turn Value h.1)))
    expression_typed (Cast a t) turn want h =
        plainly_typed s p want (Cast a t) (converted a (λ x. Cast x t) (unroll a turn)) h
        (read_typed want t (converted a (λ x. Cast x t) (unroll a turn)) h.1
        (cast_typed (is_array (type_of a)) a t (unroll a turn) refl h.2 (expression_typed a turn (unless_array (type_of a)) h.0)))
    expression_typed (Unary sign.Address a t) turn want h =
        plainly_typed s p want (Unary sign.Address a t) (unary sign.Address a t (unroll a turn)) h
        (read_typed want t (unary sign.Address a t (unroll a turn)) h.1
        (address_typed s p t (type_of a) (unroll a turn) h.2 (expression_typed a turn Place' h.0)))
    expression_typed (Unary sign.Deref a t) turn want h =
        plainly_typed s p want (Unary sign.Deref a t) (unary sign.Deref a t (unroll a turn)) h
        (one_typed s p want t Value (type_of a) (unroll a turn) (λ x. Unary sign.Deref (Temp x (type_of a)) t) (λ x. refl)
        (λ k x i. ((tt, i), h.1)) (expression_typed a turn Value h.0))
    expression_typed (Unary sign.Not a t) turn want h =
        plainly_typed s p want (Unary sign.Not a t) (unary sign.Not a t (unroll a turn)) h
        (one_typed s p want t Value (type_of a) (unroll a turn) (λ x. Unary sign.Not (Temp x (type_of a)) t) (λ x. refl)
        (λ k x i. ((tt, i), h.1, h.2, h.3)) (expression_typed a turn Value h.0))
    expression_typed (Unary sign.Plus a t) turn want h =
        plainly_typed s p want (Unary sign.Plus a t) (unary sign.Plus a t (unroll a turn)) h
        (one_typed s p want t Value (type_of a) (unroll a turn) (λ x. Unary sign.Plus (Temp x (type_of a)) t) (λ x. refl)
        (λ k x i. ((tt, i), h.1, h.2, h.3)) (expression_typed a turn Value h.0))
    expression_typed (Unary sign.Minus a t) turn want h =
        plainly_typed s p want (Unary sign.Minus a t) (unary sign.Minus a t (unroll a turn)) h
        (one_typed s p want t Value (type_of a) (unroll a turn) (λ x. Unary sign.Minus (Temp x (type_of a)) t) (λ x. refl)
        (λ k x i. ((tt, i), h.1, h.2, h.3)) (expression_typed a turn Value h.0))
    expression_typed (Unary sign.Complement a t) turn want h =
        plainly_typed s p want (Unary sign.Complement a t) (unary sign.Complement a t (unroll a turn)) h
        (one_typed s p want t Value (type_of a) (unroll a turn) (λ x. Unary sign.Complement (Temp x (type_of a)) t) (λ x. refl)
        (λ k x i. ((tt, i), h.1, h.2, h.3)) (expression_typed a turn Value h.0))
    expression_typed (PreInc d a t) turn want h =
        plainly_typed s p want (PreInc d a t) (one Place' (unroll a turn) (λ x. PreInc d (TempPlace x (type_of a)) t)) h
        (one_typed s p want t Place' (type_of a) (unroll a turn) (λ x. PreInc d (TempPlace x (type_of a)) t) (λ x. refl)
        (λ k x i. (i, h.1, h.2, h.3)) (expression_typed a turn Place' h.0))
    expression_typed (PostInc d a t) turn want h =
        plainly_typed s p want (PostInc d a t) (one Place' (unroll a turn) (λ x. PostInc d (TempPlace x (type_of a)) t)) h
        (one_typed s p want t Place' (type_of a) (unroll a turn) (λ x. PostInc d (TempPlace x (type_of a)) t) (λ x. refl)
        (λ k x i. (i, h.1, h.2, h.3)) (expression_typed a turn Place' h.0))
    expression_typed (SizeofExpr a n t) turn want h =
        plainly_typed s p want (SizeofExpr a n t) (kept (SizeofType n t)) h (kept_typed s p want (SizeofType n t) (λ k. h))
    expression_typed (SizeofType n t) turn want h = kept_typed s p want (SizeofType n t) (λ k. h)
    expression_typed (Index a b t) turn want h =
        plainly_typed s p want (Index a b t) (indexed a b t (unroll a turn) (unroll b turn)) h
        (index_typed (is_array (type_of a)) want a b t (unroll a turn) (unroll b turn) refl h.2 h.3
        (expression_typed a turn (unless_array (type_of a)) h.0) (expression_typed b turn Value h.1))
    expression_typed (Call q f es t) turn want h =
        read_typed want t (unroll (Call q f es t) turn) h.2
        (call_typed q f es t turn h.3 h.4 (callee_typed (is_name f) f turn h.0 (λ i. expression_typed f turn Value i))
        (arguments_typed es turn h.1))
    expression_typed (Field a n true t) turn want h =
        plainly_typed s p want (Field a n true t) (one Value (unroll a turn) (λ x. Field (Temp x (type_of a)) n true t)) h
        (one_typed s p want t Value (type_of a) (unroll a turn) (λ x. Field (Temp x (type_of a)) n true t) (λ x. refl)
        (λ k x i. ((tt, i), h.1, h.2)) (expression_typed a turn Value h.0))
    expression_typed (Field a n false t) turn want h =
        plainly_typed s p want (Field a n false t) (one Place' (unroll a turn) (λ x. Field (TempPlace x (type_of a)) n false t)) h
        (one_typed s p want t Place' (type_of a) (unroll a turn) (λ x. Field (TempPlace x (type_of a)) n false t) (λ x. refl)
        (λ k x i. (i, h.1)) (expression_typed a turn Place' h.0))
    expression_typed (Param n t) turn want h = kept_typed s p want (Param n t) (λ k. h)
    expression_typed (Local n t) turn want h = kept_typed s p want (Local n t) (λ k. h)
    expression_typed (Global n t) turn want h = kept_typed s p want (Global n t) (λ k. h)
    expression_typed (Function n b t) turn want h = kept_typed s p want (Function n b t) (λ k. h)
    expression_typed (Number n t) turn want h = kept_typed s p want (Number n t) (λ k. h)
    expression_typed (Str q t) turn want h = kept_typed s p want (Str q t) (λ k. h)
    expression_typed (Convert a t) turn want h =
        plainly_typed s p want (Convert a t) (converted a (λ x. Convert x t) (unroll a turn)) h
        (read_typed want t (converted a (λ x. Convert x t) (unroll a turn)) h.1
        (convert_typed (is_array (type_of a)) a t (unroll a turn) refl h.2 (expression_typed a turn (unless_array (type_of a)) h.0)))
    expression_typed (Temp n t) turn want h = absurd h
    expression_typed (TempPlace n t) turn want h = absurd h

    pub arguments_typed : (es : Exps) (turn : ℕ) → FitAll p es → Arguments es (λ x next. unroll_all es turn x next)
    arguments_typed NoExps turn h x next g k w i = kept.made s p w
    arguments_typed (Exps' e es) turn h x next g k w i =
        argument_typed e es turn (expression_typed e turn Value h.0) (arguments_typed es turn h.1) x next g k w i
