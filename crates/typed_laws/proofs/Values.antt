-- The values of expressions, and values that are converted as by assignment.
use Rattle.std.proofs.Common.{◌≡◌, ◌⊎◌, ℕ, Bool, true, false, not, ◌&&◌, ◌||◌, List, [], ◌∷◌, map, refl, sym, ap, subst, ◌∙◌, inl, inr}
use Rattle.std.proofs.lemmas.Bool.{true≢false, and_parts, and_from, or_cases, or_left, or_right, or_parts, or_from}
use Rattle.std.specs.Prelude.{Option, Some, None, if◌then◌else◌}
use Rattle.sc_base.specs.declared.pos.Pos.{Pos}
use Rattle.sc_base.specs.declared.skip.IllTyped.{IllTyped}
use Rattle.sc_tree.specs.declared.ctype.CType.{CType, CType-F, out-CType}
use Rattle.sc_tree.specs.declared.ctype.CType.TheVariants as ty
use Rattle.sc_tree.specs.declared.ctype.Signature.{Signature}
use Rattle.sc_tree.specs.declared.ctype.OpaqueKind.{OpaqueKind}
use Rattle.sc_tree.specs.declared.ctype.Widths.{Widths}
use Rattle.sc_typed.specs.declared.expr.TExpr.{TExpr, out-TExpr}
use Rattle.sc_typed.specs.Types as typed
use Rattle.sc_typed.specs.Constants.{is_lvalue, is_null_integer}
use Rattle.sc_rules.specs.Faults.{ill_typed_at, unsupported_at}
use Rattle.sc_rules.specs.Walks.{Check, done}
use Rattle.sc_rules.specs.Conversions.{node, type_of, place_of, convert, to, decayed_type, decayed_layer, convert_if, decayed, opaque_kind, opaque_layer, opaque_fault, value_unless, value, converts, converted_or, converted_unless, converted}
use Rattle.sc_world.specs.Tree as tree
use Rattle.sc_world.specs.Tree.{Ty, Exp}
use Rattle.sc_world.specs.Source.{Source}
use Rattle.sc_world.specs.View.{type, exp}
use Rattle.sc_world.specs.Eval.{Value, Place'}
use Rattle.run_laws.specs.Fits.{is_function, is_scalar, converts_to, unless_array, if_scalar}
use Rattle.fitting_laws.specs.Typed.{IsTyped}
use Rattle.typed_laws.specs.Named.{NamesAgree}
use Rattle.typed_laws.proofs.Types.{integer_seen, pointer_seen, array_seen, void_seen, bool_seen, scalar_seen, type_pointer}
use Rattle.typed_laws.proofs.Trees.{typed_of, convert_value}
use Rattle.typed_laws.proofs.Same.{same_type_seen}
use Rattle.typed_laws.proofs.Steps.{OnSome, Every, Gives, by_some, by_fault, by_if}
use Rattle.typed_laws.proofs.Made.{clash, is_object, seen, Made, Valued, Brought, value_typed, convert_typed, convert_names, unless_place, seen_array, seen_function, seen_integer, brought, integer_to, pointer_to}

never : {A : Type 0} → false ≡ true → A
never h = absurd (true≢false (sym h))

-- Sorts of types.

abbrev IsNone : Option OpaqueKind → Type 0
IsNone None = Unit {0}
IsNone (Some x) = ⊥

pub no_some : (i : OpaqueKind) → Some i ≡ None → ⊥
no_some i e = subst IsNone (sym e) tt

pub pointer_no_object : (t : CType) → typed.is_pointer t ≡ true → is_object t ≡ false
pointer_no_object t h = layer (out-CType t) h
  where
    layer : (f : CType-F CType Signature) → typed.is_pointer_layer f ≡ true → (typed.is_aggregate_layer f || (typed.is_array_layer f || typed.is_function_layer f)) ≡ false
    layer (CType-F.Ptr u) h = refl
    layer _ h = never h

pub bool_integer : (t : CType) → typed.is_bool t ≡ true → typed.is_integer t ≡ true
bool_integer t h = layer (out-CType t) h
  where
    layer : (f : CType-F CType Signature) → typed.is_bool_layer f ≡ true → typed.is_integer_layer f ≡ true
    layer CType-F.Bool h = refl
    layer _ h = never h

-- what is neither a scalar nor void nor opaque goes by its place
pub others_are_objects : (t : CType) → typed.is_scalar t ≡ false → typed.is_void t ≡ false → opaque_kind t ≡ None → is_object t ≡ true
others_are_objects t h k o = layer (out-CType t) h k o
  where
    layer : (f : CType-F CType Signature) → (typed.is_integer_layer f || typed.is_pointer_layer f) ≡ false → typed.is_void_layer f ≡ false → opaque_layer f ≡ None
        → (typed.is_aggregate_layer f || (typed.is_array_layer f || typed.is_function_layer f)) ≡ true
    layer CType-F.Void h k o = absurd (true≢false k)
    layer CType-F.Bool h k o = absurd (true≢false h)
    layer (CType-F.Int i) h k o = absurd (true≢false h)
    layer (CType-F.Ptr u) h k o = absurd (true≢false h)
    layer (CType-F.Array u n) h k o = refl
    layer (CType-F.Struct n) h k o = refl
    layer (CType-F.Union n) h k o = refl
    layer (CType-F.Func x) h k o = refl
    layer (CType-F.Opaque i) h k o = absurd (no_some i o)

module _ (s : Source) where
  -- Values (C11 6.3.2.1).

  abbrev pub Decays : CType-F CType Signature → Option CType → Type 0
  Decays f None = (typed.is_array_layer f ≡ false) × (typed.is_function_layer f ≡ false)
  Decays f (Some t) =
      ((typed.is_array_layer f ≡ true) ⊎ (typed.is_function_layer f ≡ true)) × (typed.is_pointer t ≡ true)

  pointer_is : (t : CType) → typed.is_pointer (ty.Ptr t) ≡ true
  unfolding out-CType denote.Hole.Carrier.out
  pointer_is t = refl

  pub decays : (f : CType-F CType Signature) → Decays f (decayed_layer f)
  decays (CType-F.Array t n) = (inl refl, pointer_is t)
  decays (CType-F.Func x) = (inr refl, pointer_is (ty.Func x))
  decays CType-F.Void = (refl, refl)
  decays CType-F.Bool = (refl, refl)
  decays (CType-F.Int k) = (refl, refl)
  decays (CType-F.Ptr t) = (refl, refl)
  decays (CType-F.Struct n) = (refl, refl)
  decays (CType-F.Union n) = (refl, refl)
  decays (CType-F.Opaque k) = (refl, refl)

  array_goes : (u t : Ty) → tree.is_array u ≡ true → tree.is_pointer t ≡ true → converts_to u t ≡ true
  array_goes (tree.Array v n) t h k = or_right (tree.is_void t) (tree.is_pointer t) k
  array_goes _ t h k = never h

  function_goes : (u t : Ty) → is_function u ≡ true → tree.is_pointer t ≡ true → converts_to u t ≡ true
  function_goes (tree.Func r known ts v) t h k = or_right (tree.is_void t) (tree.is_pointer t || tree.is_bool t) (or_left (tree.is_pointer t) (tree.is_bool t) k)
  function_goes _ t h k = never h

  -- the pointer to the first element, or to the function
  array_decays : (e : TExpr) (t : CType) → Made s e → typed.is_array (type_of e) ≡ true → typed.is_pointer t ≡ true → NamesAgree s (seen s (convert e t)) → IsTyped s Value (seen s (convert e t))
  array_decays e t m h k names =
      convert_typed s e t (subst (λ w. IsTyped s w (seen s e)) (sym (unless_place s (tree.type_of (seen s e)) (seen_array s e true h))) (m.object (convert_names s e t names) (or_right (typed.is_aggregate (type_of e)) (typed.is_array (type_of e) || typed.is_function (type_of e)) (or_left (typed.is_array (type_of e)) (typed.is_function (type_of e)) h))))
      (array_goes (tree.type_of (seen s e)) (type t) (seen_array s e true h) (pointer_seen t ∙ k))

  function_decays : (b : Bool) (e : TExpr) (t : CType) → typed.is_array (type_of e) ≡ b → Made s e → opaque_kind (type_of e) ≡ None → typed.is_function (type_of e) ≡ true → typed.is_pointer t ≡ true → NamesAgree s (seen s (convert e t)) → IsTyped s Value (seen s (convert e t))
  function_decays true e t j m o h k names = array_decays e t m j k names
  function_decays false e t j m o h k names =
      convert_typed s e t (subst (λ w. IsTyped s w (seen s e)) (sym (ap (λ b. if b then Place' else Value) (seen_array s e false j))) (m.value (convert_names s e t names) o))
      (function_goes (tree.type_of (seen s e)) (type t) (seen_function s e true h) (pointer_seen t ∙ k))

  decay_typed : (e : TExpr) (t : CType) → Made s e → opaque_kind (type_of e) ≡ None → (typed.is_array (type_of e) ≡ true) ⊎ (typed.is_function (type_of e) ≡ true) → typed.is_pointer t ≡ true → NamesAgree s (seen s (convert e t)) → IsTyped s Value (seen s (convert e t))
  decay_typed e t m o (inl h) k names = array_decays e t m h k names
  decay_typed e t m o (inr h) k names = function_decays (typed.is_array (type_of e)) e t refl m o h k names

  pub pointer_no_array : (t : CType) → typed.is_pointer t ≡ true → typed.is_array t ≡ false
  pointer_no_array t h = (or_parts (typed.is_array t) (typed.is_function t) (or_parts (typed.is_aggregate t) (typed.is_array t || typed.is_function t) (pointer_no_object t h)).1).0

  pub pointer_no_function : (t : CType) → typed.is_pointer t ≡ true → typed.is_function t ≡ false
  pointer_no_function t h = (or_parts (typed.is_array t) (typed.is_function t) (or_parts (typed.is_aggregate t) (typed.is_array t || typed.is_function t) (pointer_no_object t h)).1).1

  pub pointer_no_opaque : (t : CType) → typed.is_pointer t ≡ true → opaque_kind t ≡ None
  pointer_no_opaque t h = layer (out-CType t) h
    where
      layer : (f : CType-F CType Signature) → typed.is_pointer_layer f ≡ true → opaque_layer f ≡ None
      layer (CType-F.Ptr u) h = refl
      layer _ h = never h

  pub decayed_by : (d : Option CType) (e : TExpr) → Made s e → opaque_kind (type_of e) ≡ None → Decays (out-CType (type_of e)) d → Valued s (convert_if d e)
  decayed_by None e m o h =
      record {
        value = λ names. m.value names o;
        object = m.object;
        no_array = h.0;
        no_function = h.1;
        no_opaque = o;
      }
  decayed_by (Some t) e m o h =
      record {
        value = decay_typed e t m o h.0 h.1;
        object = λ names k. clash k (pointer_no_object t h.1);
        no_array = pointer_no_array t h.1;
        no_function = pointer_no_function t h.1;
        no_opaque = pointer_no_opaque t h.1;
      }

  value_by : (k : Option OpaqueKind) (e : TExpr) → opaque_kind (type_of e) ≡ k → Made s e → Gives (Valued s) (value_unless k (decayed e))
  value_by None e o m = by_some (Valued s) (decayed e) (decayed_by (decayed_type (type_of e)) e m o (decays (out-CType (type_of e))))
  value_by (Some k) e o m = by_fault (Valued s) _

  pub value_made : (e : TExpr) → Made s e → Gives (Valued s) (value e)
  value_made e m = value_by (opaque_kind (type_of e)) e refl m

  -- what stands for an object keeps its place
  pub decayed_place : (d : Option CType) (e : TExpr) → Made s e → NamesAgree s (seen s (convert_if d e)) → is_lvalue (convert_if d e) ≡ true → IsTyped s Place' (seen s (convert_if d e))
  decayed_place None e m names l = m.place names l
  decayed_place (Some t) e m names l = clash l (convert_value e t (place_of e))

  -- Values as one of a type.

  pub record Given (t : CType) (y : TExpr) : Type 0 where
    pub value : NamesAgree s (seen s y) → IsTyped s Value (seen s y)
    pub stored : NamesAgree s (seen s y) → IsTyped s (if_scalar (type t)) (seen s y)
    pub type : tree.type_of (seen s y) ≡ type t

  scalar_stored : (t : CType) (y : TExpr) → typed.is_scalar t ≡ true → Brought s t y → Given t y
  scalar_stored t y h r =
      record {
        value = r.value;
        stored = λ names. subst (λ w. IsTyped s w (seen s y)) (sym (ap (λ b. if b then Value else Place') (scalar_seen t ∙ h))) (r.value names);
        type = r.type;
      }

  -- an expression that has the type already
  same_given : (e : TExpr) (t : CType) → typed.same (type_of e) t ≡ true → typed.is_void t ≡ false → Valued s e → Given t e
  same_given e t h k v =
      record {
        value = v.value;
        stored = λ names. by_scalar (typed.is_scalar (type_of e)) refl names;
        type = typed_of s.structs e ∙ is;
      }
    where
      is : type (type_of e) ≡ type t
      is = same_type_seen (type_of e) t h

      no_void : typed.is_void (type_of e) ≡ false
      no_void = sym (void_seen (type_of e)) ∙ (ap tree.is_void is ∙ (void_seen t ∙ k))

      scalar_is : (b : Bool) → typed.is_scalar (type_of e) ≡ b → is_scalar (type t) ≡ b
      scalar_is b j = ap is_scalar (sym is) ∙ (scalar_seen (type_of e) ∙ j)

      by_scalar : (b : Bool) → typed.is_scalar (type_of e) ≡ b → NamesAgree s (seen s e) → IsTyped s (if_scalar (type t)) (seen s e)
      by_scalar true j names = subst (λ w. IsTyped s w (seen s e)) (sym (ap (λ b. if b then Value else Place') (scalar_is true j))) (v.value names)
      by_scalar false j names = subst (λ w. IsTyped s w (seen s e)) (sym (ap (λ b. if b then Value else Place') (scalar_is false j))) (v.object names (others_are_objects (type_of e) j no_void v.no_opaque))

  abbrev Goes : Widths → TExpr → CType → Type 0
  Goes w e t = (typed.is_scalar t ≡ true) × (converts_to (tree.type_of (seen s e)) (type t) ≡ true)

  goes_integer : (w : Widths) (e : TExpr) (t : CType) → typed.is_integer (type_of e) ≡ true → (typed.is_integer t || (typed.is_pointer t && is_null_integer w e)) ≡ true → Goes w e t
  goes_integer w e t h k = side (or_cases (typed.is_integer t) (typed.is_pointer t && is_null_integer w e) k)
    where
      by_scalar : typed.is_scalar t ≡ true → Goes w e t
      by_scalar j = (j, integer_to s e t h j)

      side : (typed.is_integer t ≡ true) ⊎ ((typed.is_pointer t && is_null_integer w e) ≡ true) → Goes w e t
      side (inl j) = by_scalar (or_left (typed.is_integer t) (typed.is_pointer t) j)
      side (inr j) = by_scalar (or_right (typed.is_integer t) (typed.is_pointer t) (and_parts (typed.is_pointer t) (is_null_integer w e) j).0)

  goes_pointer : (w : Widths) (e : TExpr) (t : CType) → (typed.is_pointer (type_of e) && (typed.is_pointer t || typed.is_bool t)) ≡ true → Goes w e t
  goes_pointer w e t h =
      let both = and_parts (typed.is_pointer (type_of e)) (typed.is_pointer t || typed.is_bool t) h in
      (side (or_cases (typed.is_pointer t) (typed.is_bool t) both.1), pointer_to s e t both.0 both.1)
    where
      side : (typed.is_pointer t ≡ true) ⊎ (typed.is_bool t ≡ true) → typed.is_scalar t ≡ true
      side (inl j) = or_right (typed.is_integer t) (typed.is_pointer t) j
      side (inr j) = or_left (typed.is_integer t) (typed.is_pointer t) (bool_integer t j)

  goes_by : (b : Bool) (w : Widths) (e : TExpr) (t : CType) → typed.is_integer (type_of e) ≡ b
      → (if b then typed.is_integer t || (typed.is_pointer t && is_null_integer w e) else typed.is_pointer (type_of e) && (typed.is_pointer t || typed.is_bool t)) ≡ true → Goes w e t
  goes_by true w e t h k = goes_integer w e t h k
  goes_by false w e t h k = goes_pointer w e t k

  self_goes : (x t : Ty) → x ≡ t → is_scalar t ≡ true → converts_to x t ≡ true
  self_goes x tree.Bool' is h = subst (λ z. converts_to z tree.Bool' ≡ true) (sym is) refl
  self_goes x (tree.Int k) is h = subst (λ z. converts_to z (tree.Int k) ≡ true) (sym is) refl
  self_goes x (tree.Ptr t) is h = subst (λ z. converts_to z (tree.Ptr t) ≡ true) (sym is) refl
  self_goes x _ is h = never h

  scalar_by : (b : Bool) (w : Widths) (e : TExpr) (t : CType) → typed.same (type_of e) t ≡ b → typed.is_scalar t ≡ true
      → (if b then not (typed.is_void t) else (if typed.is_integer (type_of e) then typed.is_integer t || (typed.is_pointer t && is_null_integer w e) else typed.is_pointer (type_of e) && (typed.is_pointer t || typed.is_bool t))) ≡ true
      → converts_to (tree.type_of (seen s e)) (type t) ≡ true
  scalar_by true w e t h j k = self_goes (tree.type_of (seen s e)) (type t) (typed_of s.structs e ∙ same_type_seen (type_of e) t h) (scalar_seen t ∙ j)
  scalar_by false w e t h j k = (goes_by (typed.is_integer (type_of e)) w e t refl k).1

  -- a value that converts to a scalar type
  pub scalar_goes : (w : Widths) (e : TExpr) (t : CType) → typed.is_scalar t ≡ true → converts w e t ≡ true → converts_to (tree.type_of (seen s e)) (type t) ≡ true
  scalar_goes w e t j k = scalar_by (typed.same (type_of e) t) w e t refl j k

  -- a value that converts goes to the type
  pub given_by : (b : Bool) (w : Widths) (e : TExpr) (t : CType) → typed.same (type_of e) t ≡ b → Valued s e
      → (if b then not (typed.is_void t) else (if typed.is_integer (type_of e) then typed.is_integer t || (typed.is_pointer t && is_null_integer w e) else typed.is_pointer (type_of e) && (typed.is_pointer t || typed.is_bool t))) ≡ true
      → Given t (to t e)
  given_by true w e t h v k = subst (λ b. Given t (if b then e else convert e t)) (sym h) (same_given e t h (no_true (typed.is_void t) k) v)
    where
      no_true : (b : Bool) → not b ≡ true → b ≡ false
      no_true true h = never h
      no_true false h = refl
  given_by false w e t h v k =
      let goes = goes_by (typed.is_integer (type_of e)) w e t refl k in
      scalar_stored t (to t e) goes.0 (brought s t e v goes.1)

  pub given_made : (w : Widths) (e : TExpr) (t : CType) → Valued s e → converts w e t ≡ true → Given t (to t e)
  given_made w e t v k = given_by (typed.same (type_of e) t) w e t refl v k

  or_made : (b : Bool) (w : Widths) (kind : IllTyped) (at : Pos) (t : CType) (e : TExpr) → converts w e t ≡ b → Valued s e → Gives (Given t) (converted_or b kind at t e)
  or_made true w kind at t e h v = by_some (Given t) (to t e) (given_made w e t v h)
  or_made false w kind at t e h v = by_fault (Given t) (ill_typed_at kind at)

  unless_made : (o : Option OpaqueKind) (w : Widths) (kind : IllTyped) (at : Pos) (t : CType) (e : TExpr) → Valued s e → Gives (Given t) (converted_unless o w kind at t e)
  unless_made None w kind at t e v = or_made (converts w e t) w kind at t e refl v
  unless_made (Some k) w kind at t e v = by_if (OnSome (Given t)) (typed.is_integer (type_of e)) _ _ (λ h. by_fault (Given t) _) (λ h. by_fault (Given t) _)

  pub converted_made : (w : Widths) (kind : IllTyped) (at : Pos) (t : CType) (e : TExpr) → Valued s e → Gives (Given t) (converted w kind at t e)
  converted_made w kind at t e v = unless_made (opaque_kind t) w kind at t e v

  -- A pointer becomes a pointer or a truth value.

  pub pointer_no_integer : (t : CType) → typed.is_pointer t ≡ true → typed.is_integer t ≡ false
  pointer_no_integer t h = layer (out-CType t) h
    where
      layer : (f : CType-F CType Signature) → typed.is_pointer_layer f ≡ true → typed.is_integer_layer f ≡ false
      layer (CType-F.Ptr v) h = refl
      layer _ h = never h

  abbrev pub PointerOrTruth : Ty → Type 0
  PointerOrTruth t = (tree.is_pointer t || tree.is_bool t) ≡ true

  pointer_stays : (b c : Bool) (w : Widths) (e : TExpr) (t : CType) → typed.same (type_of e) t ≡ b → typed.is_integer (type_of e) ≡ c → typed.is_pointer (type_of e) ≡ true
      → (if b then not (typed.is_void t) else (if c then typed.is_integer t || (typed.is_pointer t && is_null_integer w e) else typed.is_pointer (type_of e) && (typed.is_pointer t || typed.is_bool t))) ≡ true
      → PointerOrTruth (type t)
  pointer_stays true c w e t h i p k = or_left (tree.is_pointer (type t)) (tree.is_bool (type t)) (ap tree.is_pointer (sym (same_type_seen (type_of e) t h)) ∙ (pointer_seen (type_of e) ∙ p))
  pointer_stays false true w e t h i p k = clash i (pointer_no_integer (type_of e) p)
  pointer_stays false false w e t h i p k =
      ap (λ b. b || tree.is_bool (type t)) (pointer_seen t) ∙ (ap (λ b. typed.is_pointer t || b) (bool_seen t) ∙ (and_parts (typed.is_pointer (type_of e)) (typed.is_pointer t || typed.is_bool t) k).1)

  pub record FromPointer (t : CType) (y : TExpr) : Type 0 where
    pub is : Given t y
    pub stays : PointerOrTruth (type t)

  or_pointer : (b : Bool) (w : Widths) (kind : IllTyped) (at : Pos) (t : CType) (e : TExpr) → converts w e t ≡ b → Valued s e → typed.is_pointer (type_of e) ≡ true → Gives (FromPointer t) (converted_or b kind at t e)
  or_pointer true w kind at t e h v p = by_some (FromPointer t) (to t e) (record { is = given_made w e t v h; stays = pointer_stays (typed.same (type_of e) t) (typed.is_integer (type_of e)) w e t refl refl p h })
  or_pointer false w kind at t e h v p = by_fault (FromPointer t) (ill_typed_at kind at)

  unless_pointer : (o : Option OpaqueKind) (w : Widths) (kind : IllTyped) (at : Pos) (t : CType) (e : TExpr) → Valued s e → typed.is_pointer (type_of e) ≡ true → Gives (FromPointer t) (converted_unless o w kind at t e)
  unless_pointer None w kind at t e v p = or_pointer (converts w e t) w kind at t e refl v p
  unless_pointer (Some k) w kind at t e v p = by_if (OnSome (FromPointer t)) (typed.is_integer (type_of e)) _ _ (λ h. by_fault (FromPointer t) _) (λ h. by_fault (FromPointer t) _)

  pub converted_pointer : (w : Widths) (kind : IllTyped) (at : Pos) (t : CType) (e : TExpr) → Valued s e → typed.is_pointer (type_of e) ≡ true → Gives (FromPointer t) (converted w kind at t e)
  converted_pointer w kind at t e v p = unless_pointer (opaque_kind t) w kind at t e v p

  -- a null constant as a pointer
  pub pointer_valued : (e : TExpr) (t : CType) → typed.is_pointer t ≡ true → (NamesAgree s (seen s (convert e t)) → IsTyped s Value (seen s (convert e t))) → Valued s (convert e t)
  pointer_valued e t h v =
      record {
        value = v;
        object = λ names k. clash k (pointer_no_object t h);
        no_array = pointer_no_array t h;
        no_function = pointer_no_function t h;
        no_opaque = pointer_no_opaque t h;
      }
