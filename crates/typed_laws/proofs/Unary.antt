-- Operators before one operand, casts, `sizeof`, indexing, constants and members make expressions that are typed.
use Rattle.std.proofs.Common.{◌≡◌, ◌⊎◌, ℕ, ℤ, Bool, true, false, not, ◌&&◌, ◌||◌, List, [], ◌∷◌, map, refl, sym, ap, subst, ◌∙◌, inl, inr}
use Rattle.std.proofs.lemmas.Bool.{true≢false, and_parts, and_from, or_cases, or_left, or_right, or_parts}
use Rattle.std.specs.Prelude.{Option, Some, None, if◌then◌else◌}
use Rattle.sc_base.specs.declared.pos.NameId.{NameId}
use Rattle.sc_base.specs.declared.skip.Unsupported.TheVariants as u
use Rattle.sc_base.specs.declared.skip.IllTyped.TheVariants as i
use Rattle.sc_tree.specs.declared.token.IntToken.{IntToken}
use Rattle.sc_tree.specs.declared.token.StrToken.{StrToken}
use Rattle.sc_tree.specs.declared.op.UnaryOp.{UnaryOp}
use Rattle.sc_tree.specs.declared.op.UnaryOp.TheVariants as sign
use Rattle.sc_tree.specs.declared.ctype.CType.{CType, CType-F, out-CType}
use Rattle.sc_tree.specs.declared.ctype.CType.TheVariants as ty
use Rattle.sc_tree.specs.declared.ctype.Signature.{Signature}
use Rattle.sc_tree.specs.declared.ctype.IntKind.{IntKind}
use Rattle.sc_tree.specs.declared.ctype.IntKind.TheVariants as kind
use Rattle.sc_tree.specs.declared.ctype.OpaqueKind.{OpaqueKind}
use Rattle.sc_tree.specs.declared.ctype.Widths.{Widths}
use Rattle.sc_tree.specs.declared.ctype.Widths.TheVariants as widths
use Rattle.sc_tree.specs.declared.expr.Place.{Place}
use Rattle.sc_typed.specs.declared.expr.TExpr.{TExpr, out-TExpr}
use Rattle.sc_typed.specs.declared.expr.What.{What}
use Rattle.sc_typed.specs.declared.expr.What.TheVariants as what
use Rattle.sc_typed.specs.Arith.{wrapped}
use Rattle.sc_typed.specs.Types as typed
use Rattle.sc_typed.specs.Constants.{is_lvalue, constant_kind}
use Rattle.sc_rules.specs.declared.walk.Walk.{Walk}
use Rattle.sc_rules.specs.Faults.{ill_typed_at, unsupported_at}
use Rattle.sc_rules.specs.Walks.{Check, ◌>>=◌, done}
use Rattle.sc_rules.specs.Conversions.{node, type_of, to, promote, opaque_kind, opaque_layer, converts}
use Rattle.sc_unary.specs.Operators.{size_type, int_of_kind, int_of_value, token_value, int_constant, address, deref_to, deref, negation, promoting, signing, unary, is_opaque_of_integer, may_cast, cast, size_of_expression, size_of_type, element_layer, element, index_to, index}
use Rattle.sc_world.specs.Tree as tree
use Rattle.sc_world.specs.Tree.{Ty, Int, Ptr, Array, Exp, Cast, Unary, SizeofExpr, SizeofType, Index, Number}
use Rattle.sc_world.specs.Source.{Source}
use Rattle.sc_world.specs.View.{type, exp}
use Rattle.sc_world.specs.Eval.{Want, Value, Place'}
use Rattle.run_laws.specs.Fits.{is_scalar, converts_to, unless_array, IsRead}
use Rattle.fitting_laws.specs.Typed.{IsIndexed, IsTyped, names_function}
use Rattle.typed_laws.specs.Named.{NamesAgree}
use Rattle.typed_laws.proofs.Types as types
use Rattle.typed_laws.proofs.Types.{integer_seen, pointer_seen, void_seen, scalar_seen, type_pointer, type_out}
use Rattle.typed_laws.proofs.Trees.{typed_of, unary_seen, cast_seen, cast_value, sizeof_seen, sizeof_value, sizeof_type_seen, sizeof_type_value, index_seen, int_seen, int_value, char_seen, char_value, address_value, not_value, plus_value, minus_value, complement_value}
use Rattle.typed_laws.proofs.Steps.{OnSome, Every, Gives, by_then, by_done, by_some, by_none, by_fault, by_if, by_unless}
use Rattle.typed_laws.proofs.Made.{clash, is_object, seen, Made, Fresh, Valued, Brought, read_made, any_made, value_typed, unless_place, seen_integer, seen_pointer, seen_scalar, seen_array, brought, integer_to}
use Rattle.typed_laws.proofs.Operators.{int_scalar, int_no_object, in_integer}
use Rattle.typed_laws.proofs.Operators as operators
use Rattle.typed_laws.proofs.Values.{pointer_no_object, scalar_goes}

never : {A : Type 0} → false ≡ true → A
never h = absurd (true≢false (sym h))

module _ (s : Source) where
  -- an expression that is an integer and reads nothing
  number_made : (x : TExpr) (n : ℕ) (k : IntKind) → seen s x ≡ Number n (type (ty.Int k)) → is_lvalue x ≡ false → is_object (type_of x) ≡ false → Fresh s x
  number_made x n k is l o = read_made s x (Number n (type (ty.Int k))) refl is l o (λ names. (tt, operators.int_seen k))

  -- Constants.

  kind_made : (k : Option IntKind) (n : ℕ) (p : Place) → Gives (Fresh s) (int_of_kind k n p)
  kind_made None n p = by_fault (Fresh s) (unsupported_at u.Wide p.token)
  kind_made (Some k) n p = by_some (Fresh s) (node (what.Int n) (ty.Int k) p) (number_made (node (what.Int n) (ty.Int k) p) n k (int_seen s.structs n (ty.Int k) p) (int_value n (ty.Int k) p) (int_no_object k))

  number_by : (w : Widths) (t : IntToken) (n : Option ℕ) (p : Place) → Gives (Fresh s) (int_of_value w t n p)
  number_by w t None p = by_fault (Fresh s) (unsupported_at u.Wide p.token)
  number_by w t (Some n) p = kind_made (constant_kind w t.decimal t.unsigned t.longs n) n p

  pub constants_made : (w : Widths) (t : IntToken) (p : Place) → Gives (Fresh s) (int_constant w t p)
  constants_made w t p = number_by w t (token_value t) p

  pub int_made : (n : ℕ) (k : IntKind) (p : Place) → Fresh s (node (what.Int n) (ty.Int k) p)
  int_made n k p = number_made (node (what.Int n) (ty.Int k) p) n k (int_seen s.structs n (ty.Int k) p) (int_value n (ty.Int k) p) (int_no_object k)

  pub char_made : (c : ℤ) (k : IntKind) (p : Place) → Fresh s (node (what.Char c) (ty.Int k) p)
  char_made c k p = number_made (node (what.Char c) (ty.Int k) p) (wrapped 32 c) k (char_seen s.structs c (ty.Int k) p) (char_value c (ty.Int k) p) (int_no_object k)

  -- Operators before their operand.

  function_object : (t : CType) → typed.is_function t ≡ true → is_object t ≡ true
  function_object t h = or_right (typed.is_aggregate t) (typed.is_array t || typed.is_function t) (or_right (typed.is_array t) (typed.is_function t) h)

  address_place : (a : TExpr) → Made s a → (is_lvalue a || typed.is_function (type_of a)) ≡ true → NamesAgree s (seen s a) → IsTyped s Place' (seen s a)
  address_place a m h names = side (or_cases (is_lvalue a) (typed.is_function (type_of a)) h)
    where
      side : (is_lvalue a ≡ true) ⊎ (typed.is_function (type_of a) ≡ true) → IsTyped s Place' (seen s a)
      side (inl k) = m.place names k
      side (inr k) = m.object names (function_object (type_of a) k)

  pub address_made : (p : Place) (a : TExpr) → Made s a → Gives (Fresh s) (address p a)
  unfolding out-CType denote.Hole.Carrier.out
  address_made p a m =
      by_unless (Fresh s) (is_lvalue a || typed.is_function (type_of a)) _ (ill_typed_at i.Lvalue p.token) (λ h.
      by_some (Fresh s) (node (what.Unary sign.Address a) (ty.Ptr (type_of a)) p)
      (read_made s (node (what.Unary sign.Address a) (ty.Ptr (type_of a)) p) (Unary sign.Address (seen s a) (type (ty.Ptr (type_of a)))) refl (unary_seen s.structs sign.Address a (ty.Ptr (type_of a)) p) (address_value a (ty.Ptr (type_of a)) p) (pointer_no_object (ty.Ptr (type_of a)) refl)
      (λ names. (address_place a m h names, tt, ap tree.is_pointer (type_pointer (type_of a))))))

  abbrev Points : CType → Option CType → Type 0
  Points t None = Unit {0}
  Points t (Some v) = typed.is_pointer t ≡ true

  points : (t : CType) → Points t (typed.target t)
  points t = layer (out-CType t)
    where
      Layer : CType-F CType Signature → Option CType → Type 0
      Layer f None = Unit {0}
      Layer f (Some v) = typed.is_pointer_layer f ≡ true

      out : (f : CType-F CType Signature) → Layer f (typed.target_layer f)
      out CType-F.Void = tt
      out CType-F.Bool = tt
      out (CType-F.Int k) = tt
      out (CType-F.Ptr v) = refl
      out (CType-F.Array v n) = tt
      out (CType-F.Struct n) = tt
      out (CType-F.Union n) = tt
      out (CType-F.Func x) = tt
      out (CType-F.Opaque k) = tt

      back : (o : Option CType) → Layer (out-CType t) o → Points t o
      back None h = tt
      back (Some v) h = h

      layer : (f : CType-F CType Signature) → Points t (typed.target t)
      layer f = back (typed.target t) (out (out-CType t))

  deref_made : (o : Option CType) (p : Place) (a : TExpr) → Points (type_of a) o → Valued s a → Gives (Fresh s) (deref_to o p a)
  deref_made None p a h v = by_fault (Fresh s) (ill_typed_at i.Operand p.token)
  deref_made (Some t) p a h v =
      by_some (Fresh s) (node (what.Unary sign.Deref a) t p)
      (any_made s (node (what.Unary sign.Deref a) t p) (Unary sign.Deref (seen s a) (type t)) refl (unary_seen s.structs sign.Deref a t p) (λ names want. (v.value names, seen_pointer s a true h)))

  negation_made : (p : Place) (a : TExpr) → Valued s a → Gives (Fresh s) (negation p a)
  negation_made p a v =
      by_unless (Fresh s) (typed.is_scalar (type_of a)) _ (ill_typed_at i.Operand p.token) (λ h.
      by_some (Fresh s) (node (what.Unary sign.Not a) (ty.Int kind.Int) p)
      (read_made s (node (what.Unary sign.Not a) (ty.Int kind.Int) p) (Unary sign.Not (seen s a) (type (ty.Int kind.Int))) refl (unary_seen s.structs sign.Not a (ty.Int kind.Int) p) (not_value a (ty.Int kind.Int) p) (int_no_object kind.Int)
      (λ names. (v.value names, tt, seen_scalar s a true h, operators.int_seen kind.Int))))

  -- what an operator on integers makes of its promoted operand
  abbrev Promotes : UnaryOp → Type 0
  Promotes o = (p : Place) (k : IntKind) (y : TExpr) → Brought s (ty.Int k) y → Fresh s (node (what.Unary o y) (ty.Int k) p)

  plus_made : Promotes sign.Plus
  plus_made p k y r =
      read_made s (node (what.Unary sign.Plus y) (ty.Int k) p) (Unary sign.Plus (seen s y) (type (ty.Int k))) refl (unary_seen s.structs sign.Plus y (ty.Int k) p) (plus_value y (ty.Int k) p) (int_no_object k)
      (λ names. (r.value names, tt, r.type, operators.int_seen k))

  minus_made : Promotes sign.Minus
  minus_made p k y r =
      read_made s (node (what.Unary sign.Minus y) (ty.Int k) p) (Unary sign.Minus (seen s y) (type (ty.Int k))) refl (unary_seen s.structs sign.Minus y (ty.Int k) p) (minus_value y (ty.Int k) p) (int_no_object k)
      (λ names. (r.value names, tt, r.type, operators.int_seen k))

  complement_made : Promotes sign.Complement
  complement_made p k y r =
      read_made s (node (what.Unary sign.Complement y) (ty.Int k) p) (Unary sign.Complement (seen s y) (type (ty.Int k))) refl (unary_seen s.structs sign.Complement y (ty.Int k) p) (complement_value y (ty.Int k) p) (int_no_object k)
      (λ names. (r.value names, tt, r.type, operators.int_seen k))

  promoting_made : (o : UnaryOp) (p : Place) (a : TExpr) → Promotes o → Valued s a → Gives (Fresh s) (promoting o p a)
  promoting_made o p a r v =
      by_unless (Fresh s) (typed.is_integer (type_of a)) _ (ill_typed_at i.Operand p.token) (λ h.
      by_some (Fresh s) (node (what.Unary o (promote a)) (ty.Int (typed.promoted_kind (type_of a))) p)
      (r p (typed.promoted_kind (type_of a)) (promote a) (in_integer s (typed.promoted_kind (type_of a)) a v h)))

  signing_made : (o : UnaryOp) (p : Place) (a : TExpr) → Promotes o → Valued s a → Gives (Fresh s) (signing o p a)
  signing_made o p a r v = by_if (OnSome (Fresh s)) (typed.is_pointer (type_of a)) _ _ (λ h. by_fault (Fresh s) (unsupported_at u.Arith p.token)) (λ h. promoting_made o p a r v)

  -- the operand of `&` stands as it is, that of any other operator is a value
  abbrev pub Operand : UnaryOp → TExpr → Type 0
  Operand sign.Address a = Made s a
  Operand _ a = Valued s a

  pub unary_made : (o : UnaryOp) (p : Place) (a : TExpr) → Operand o a → Gives (Fresh s) (unary o p a)
  unary_made sign.Address p a m = address_made p a m
  unary_made sign.Deref p a v = deref_made (typed.target (type_of a)) p a (points (type_of a)) v
  unary_made sign.Not p a v = negation_made p a v
  unary_made sign.Plus p a v = signing_made sign.Plus p a plus_made v
  unary_made sign.Minus p a v = signing_made sign.Minus p a minus_made v
  unary_made sign.Complement p a v = promoting_made sign.Complement p a complement_made v

  -- Casts.

  opaque_there : (t : CType) (e : TExpr) (o : Option OpaqueKind) → is_opaque_of_integer t e o ≡ true → o ≡ None → ⊥
  opaque_there t e None h k = never h
  opaque_there t e (Some j) h k = no_some j k
    where
      IsNone : Option OpaqueKind → Type 0
      IsNone None = Unit {0}
      IsNone (Some x) = ⊥

      no_some : (j : OpaqueKind) → Some j ≡ None → ⊥
      no_some j e = subst IsNone (sym e) tt

  void_converts : (x y : Ty) → tree.is_void y ≡ true → converts_to x y ≡ true
  void_converts x tree.Void h = refl
  void_converts x _ h = never h

  scalar_no_object : (t : CType) → typed.is_scalar t ≡ true → is_object t ≡ false
  scalar_no_object t h = layer (out-CType t) h
    where
      layer : (f : CType-F CType Signature) → (typed.is_integer_layer f || typed.is_pointer_layer f) ≡ true → (typed.is_aggregate_layer f || (typed.is_array_layer f || typed.is_function_layer f)) ≡ false
      layer CType-F.Bool h = refl
      layer (CType-F.Int k) h = refl
      layer (CType-F.Ptr v) h = refl
      layer _ h = never h

  void_no_object : (t : CType) → typed.is_void t ≡ true → is_object t ≡ false
  void_no_object t h = layer (out-CType t) h
    where
      layer : (f : CType-F CType Signature) → typed.is_void_layer f ≡ true → (typed.is_aggregate_layer f || (typed.is_array_layer f || typed.is_function_layer f)) ≡ false
      layer CType-F.Void h = refl
      layer _ h = never h

  opaque_no_object : (t : CType) → (opaque_kind t ≡ None → ⊥) → is_object t ≡ false
  opaque_no_object t h = layer (out-CType t) h
    where
      layer : (f : CType-F CType Signature) → (opaque_layer f ≡ None → ⊥) → (typed.is_aggregate_layer f || (typed.is_array_layer f || typed.is_function_layer f)) ≡ false
      layer (CType-F.Opaque k) h = refl
      layer CType-F.Void h = absurd (h refl)
      layer CType-F.Bool h = absurd (h refl)
      layer (CType-F.Int k) h = absurd (h refl)
      layer (CType-F.Ptr v) h = absurd (h refl)
      layer (CType-F.Array v n) h = absurd (h refl)
      layer (CType-F.Struct n) h = absurd (h refl)
      layer (CType-F.Union n) h = absurd (h refl)
      layer (CType-F.Func x) h = absurd (h refl)

  record Casting (t : CType) (e : TExpr) : Type 0 where
    goes : opaque_kind t ≡ None → converts_to (tree.type_of (seen s e)) (type t) ≡ true
    no_object : is_object t ≡ false

  casting : (w : Widths) (t : CType) (e : TExpr) → Valued s e → may_cast w t e ≡ true → Casting t e
  casting w t e v h = side (or_cases (is_opaque_of_integer t e (opaque_kind t)) (typed.is_void t || (typed.is_scalar t && converts w e t)) h)
    where
      other : (typed.is_void t ≡ true) ⊎ ((typed.is_scalar t && converts w e t) ≡ true) → Casting t e
      other (inl k) = record { goes = λ o. void_converts (tree.type_of (seen s e)) (type t) (void_seen t ∙ k); no_object = void_no_object t k }
      other (inr k) =
          let both = and_parts (typed.is_scalar t) (converts w e t) k in
          record { goes = λ o. scalar_goes s w e t both.0 both.1; no_object = scalar_no_object t both.0 }

      side : (is_opaque_of_integer t e (opaque_kind t) ≡ true) ⊎ ((typed.is_void t || (typed.is_scalar t && converts w e t)) ≡ true) → Casting t e
      side (inl k) = record { goes = λ o. absurd (opaque_there t e (opaque_kind t) k o); no_object = opaque_no_object t (opaque_there t e (opaque_kind t) k) }
      side (inr k) = other (or_cases (typed.is_void t) (typed.is_scalar t && converts w e t) k)

  cast_typed : (w : Widths) (p : Place) (t : CType) (e : TExpr) → Valued s e → Casting t e → Fresh s (node (what.Cast e) t p)
  cast_typed w p t e v c =
      record {
        made = record {
          value = λ names o. subst (IsTyped s Value) (sym is) (value_typed s e v (subst (NamesAgree s) is names), tt, c.goes o);
          place = λ names l. clash l (cast_value e t p);
          object = λ names o. clash o c.no_object;
        };
        plain = ap names_function is;
      }
    where
      is : seen s (node (what.Cast e) t p) ≡ Cast (seen s e) (type t)
      is = cast_seen s.structs e t p

  pub cast_made : (w : Widths) (p : Place) (t : CType) (e : TExpr) → Valued s e → Gives (Fresh s) (cast w p t e)
  cast_made w p t e v =
      by_if (OnSome (Fresh s)) (may_cast w t e) _ _ (λ h. by_some (Fresh s) (node (what.Cast e) t p) (cast_typed w p t e v (casting w t e v h)))
      (λ h. by_if (OnSome (Fresh s)) (typed.is_pointer (type_of e) || typed.is_pointer t) _ _ (λ k. by_fault (Fresh s) (unsupported_at u.Cast p.token)) (λ k. by_fault (Fresh s) (ill_typed_at i.Operand p.token)))

  -- `sizeof`

  abbrev SizeKind : CType → Type 0
  SizeKind t = (k : IntKind) × (t ≡ ty.Int k)

  size_kind : (w : Widths) → SizeKind (size_type w)
  size_kind widths.Ilp32 = (kind.UInt, refl)
  size_kind widths.Lp64 = (kind.ULong, refl)

  size_integer : (t : CType) → SizeKind t → tree.is_integer (type t) ≡ true
  size_integer t (k, is) = subst (λ z. tree.is_integer (type z) ≡ true) (sym is) (operators.int_seen k)

  size_no_object : (t : CType) → SizeKind t → is_object t ≡ false
  size_no_object t (k, is) = subst (λ z. is_object z ≡ false) (sym is) (int_no_object k)

  pub sizes_made : (w : Widths) (n : Option ℕ) (p : Place) (e : TExpr) → Gives (Fresh s) (size_of_expression w n p e)
  sizes_made w None p e = by_fault (Fresh s) (ill_typed_at i.Incomplete p.token)
  sizes_made w (Some n) p e =
      by_some (Fresh s) (node (what.SizeofExpr e n) (size_type w) p)
      (read_made s (node (what.SizeofExpr e n) (size_type w) p) (SizeofExpr (seen s e) n (type (size_type w))) refl (sizeof_seen s.structs e n (size_type w) p) (sizeof_value e n (size_type w) p) (size_no_object (size_type w) (size_kind w))
      (λ names. (tt, size_integer (size_type w) (size_kind w))))

  pub type_sizes_made : (w : Widths) (n : Option ℕ) (p : Place) → Gives (Fresh s) (size_of_type w n p)
  type_sizes_made w None p = by_fault (Fresh s) (ill_typed_at i.Incomplete p.token)
  type_sizes_made w (Some n) p =
      by_some (Fresh s) (node (what.SizeofType n) (size_type w) p)
      (read_made s (node (what.SizeofType n) (size_type w) p) (SizeofType n (type (size_type w))) refl (sizeof_type_seen s.structs n (size_type w) p) (sizeof_type_value n (size_type w) p) (size_no_object (size_type w) (size_kind w))
      (λ names. (tt, size_integer (size_type w) (size_kind w))))

  -- Indexing.

  -- what stands before `[`: an array as it stands, or a value
  pub record Indexable (a : TExpr) : Type 0 where
    pub typed : NamesAgree s (seen s a) → IsTyped s (unless_array (tree.type_of (seen s a))) (seen s a)

  -- an element of an array, or what a pointer points to
  abbrev Element : CType → Option CType → Type 0
  Element v None = Unit {0}
  Element v (Some t) = ((n : Option ℕ) × (type v ≡ Array (type t) n)) ⊎ (type v ≡ Ptr (type t))

  element_of : (v : CType) → Element v (element v)
  element_of v = back (element_layer (out-CType v)) (layer (out-CType v))
    where
      Layer : CType-F CType Signature → Option CType → Type 0
      Layer f None = Unit {0}
      Layer f (Some t) = ((n : Option ℕ) × (types.seen f ≡ Array (type t) n)) ⊎ (types.seen f ≡ Ptr (type t))

      pointer : (t : CType) (b : Bool) → Layer (CType-F.Ptr t) (if b then None else Some t)
      pointer t true = tt
      pointer t false = inr refl

      layer : (f : CType-F CType Signature) → Layer f (element_layer f)
      layer (CType-F.Array t n) = inl (n, refl)
      layer (CType-F.Ptr t) = pointer t (typed.is_function t)
      layer CType-F.Void = tt
      layer CType-F.Bool = tt
      layer (CType-F.Int k) = tt
      layer (CType-F.Struct n) = tt
      layer (CType-F.Union n) = tt
      layer (CType-F.Func x) = tt
      layer (CType-F.Opaque k) = tt

      back : (o : Option CType) → Layer (out-CType v) o → Element v o
      back None h = tt
      back (Some t) (inl (n, is)) = inl (n, type_out v ∙ is)
      back (Some t) (inr is) = inr (type_out v ∙ is)

  is_indexed : (x t : Ty) → ((n : Option ℕ) × (x ≡ Array t n)) ⊎ (x ≡ Ptr t) → IsIndexed s (tree.is_array x) x t
  is_indexed x t (inl (n, is)) = subst (λ z. IsIndexed s (tree.is_array z) z t) (sym is) (n, refl)
  is_indexed x t (inr is) = subst (λ z. IsIndexed s (tree.is_array z) z t) (sym is) refl

  elements_made : (o : Option CType) (p : Place) (a k : TExpr) → Element (type_of a) o → Indexable a → Valued s k → Gives (Fresh s) (index_to o p a k)
  elements_made None p a k h x v = by_fault (Fresh s) (ill_typed_at i.Operand p.token)
  elements_made (Some t) p a k h x v =
      by_unless (Fresh s) (typed.is_integer (type_of k)) _ (ill_typed_at i.Operand p.token) (λ j.
      by_some (Fresh s) (node (what.Index a k) t p)
      (any_made s (node (what.Index a k) t p) (Index (seen s a) (seen s k) (type t)) refl (index_seen s.structs a k t p)
      (λ names want. (x.typed names.0, v.value names.1, seen_integer s k true j, is_indexed (tree.type_of (seen s a)) (type t) (subst (λ z. ((n : Option ℕ) × (z ≡ Array (type t) n)) ⊎ (z ≡ Ptr (type t))) (sym (typed_of s.structs a)) h)))))

  pub index_made : (p : Place) (a k : TExpr) → Indexable a → Valued s k → Gives (Fresh s) (index p a k)
  index_made p a k x v = elements_made (element (type_of a)) p a k (element_of (type_of a)) x v
