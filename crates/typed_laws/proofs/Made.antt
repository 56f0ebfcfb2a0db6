-- What typing makes of an expression: its value is typed, and so is its place where it has one.
use Rattle.std.proofs.Common.{◌≡◌, ℕ, Bool, true, false, not, ◌&&◌, ◌||◌, List, [], ◌∷◌, map, refl, sym, ap, subst, ◌∙◌}
use Rattle.std.proofs.lemmas.Bool.{true≢false, and_parts}
use Rattle.std.specs.Prelude.{Option, Some, None, if◌then◌else◌}
use Rattle.sc_base.specs.declared.pos.NameId.{NameId}
use Rattle.sc_tree.specs.declared.ctype.CType.{CType, CType-F, out-CType}
use Rattle.sc_tree.specs.declared.ctype.CType.TheVariants as ty
use Rattle.sc_tree.specs.declared.ctype.Signature.{Signature}
use Rattle.sc_tree.specs.declared.ctype.OpaqueKind.{OpaqueKind}
use Rattle.sc_tree.specs.declared.ctype.IntKind.{IntKind}
use Rattle.sc_tree.specs.declared.ctype.Widths.{Widths}
use Rattle.sc_typed.specs.declared.expr.TExpr.{TExpr, out-TExpr}
use Rattle.sc_typed.specs.declared.expr.What.{What}
use Rattle.sc_typed.specs.declared.expr.What.TheVariants as what
use Rattle.sc_typed.specs.Types as typed
use Rattle.sc_typed.specs.Constants.{is_lvalue, is_null_integer}
use Rattle.sc_rules.specs.Walks.{Check, done}
use Rattle.sc_rules.specs.Conversions.{node, type_of, place_of, convert, to, promote, decayed_type, decayed_layer, convert_if, decayed, opaque_kind, value_unless, value, converts}
use Rattle.sc_world.specs.Tree as tree
use Rattle.sc_world.specs.Tree.{Ty, Int, Exp, Convert}
use Rattle.sc_world.specs.Source.{Source}
use Rattle.sc_world.specs.View.{type, exp}
use Rattle.sc_world.specs.Eval.{Want, Value, Place'}
use Rattle.run_laws.specs.Fits.{is_function, is_scalar, converts_to, unless_array, if_scalar, IsRead}
use Rattle.fitting_laws.specs.Typed.{IsTyped, names_function}
use Rattle.typed_laws.specs.Named.{NamesAgree}
use Rattle.typed_laws.proofs.Types.{integer_seen, pointer_seen, array_seen, void_seen, bool_seen, function_seen, scalar_seen, type_pointer, type_int}
use Rattle.typed_laws.proofs.Trees.{typed_of, convert_seen, convert_value}
use Rattle.typed_laws.proofs.Same.{same_type_seen}
use Rattle.typed_laws.proofs.Steps.{OnSome, Every, Gives, by_some, by_fault}

pub clash : {A : Type 0} {b : Bool} → b ≡ true → b ≡ false → A
clash h k = absurd (true≢false (sym h ∙ k))

any_or : (b : Bool) → (b || true) ≡ true
any_or true = refl
any_or false = refl

-- structs and unions, arrays and functions go by their places
abbrev pub is_object : CType → Bool
is_object t = typed.is_aggregate t || (typed.is_array t || typed.is_function t)

module _ (s : Source) where
  abbrev pub seen : TExpr → Exp
  seen x = exp s.structs x

  -- an expression as it stands
  pub record Made (x : TExpr) : Type 0 where
    pub value : NamesAgree s (seen x) → opaque_kind (type_of x) ≡ None → IsTyped s Value (seen x)
    pub place : NamesAgree s (seen x) → is_lvalue x ≡ true → IsTyped s Place' (seen x)
    pub object : NamesAgree s (seen x) → is_object (type_of x) ≡ true → IsTyped s Place' (seen x)

  -- the value of an expression
  pub record Valued (x : TExpr) : Type 0 where
    pub value : NamesAgree s (seen x) → IsTyped s Value (seen x)
    pub object : NamesAgree s (seen x) → is_object (type_of x) ≡ true → IsTyped s Place' (seen x)
    pub no_array : typed.is_array (type_of x) ≡ false
    pub no_function : typed.is_function (type_of x) ≡ false
    pub no_opaque : opaque_kind (type_of x) ≡ None

  -- one that is no name of a function
  pub record Fresh (x : TExpr) : Type 0 where
    pub made : Made x
    pub plain : names_function (seen x) ≡ false

  -- an expression that has no place
  pub read_made : (x : TExpr) (e : Exp) → names_function e ≡ false → seen x ≡ e → is_lvalue x ≡ false → is_object (type_of x) ≡ false → (NamesAgree s e → IsTyped s Value e) → Fresh x
  read_made x e plain is no_lvalue no_object h =
      record {
        made = record {
          value = λ names o. subst (IsTyped s Value) (sym is) (h (subst (NamesAgree s) is names));
          place = λ names l. clash l no_lvalue;
          object = λ names o. clash o no_object;
        };
        plain = ap names_function is ∙ plain;
      }

  -- one that is typed whatever is wanted
  pub any_base : (x : TExpr) (e : Exp) → seen x ≡ e → (NamesAgree s e → (want : Want) → IsTyped s want e) → Made x
  any_base x e is h =
      record {
        value = λ names o. subst (IsTyped s Value) (sym is) (h (subst (NamesAgree s) is names) Value);
        place = λ names l. subst (IsTyped s Place') (sym is) (h (subst (NamesAgree s) is names) Place');
        object = λ names o. subst (IsTyped s Place') (sym is) (h (subst (NamesAgree s) is names) Place');
      }

  pub any_made : (x : TExpr) (e : Exp) → names_function e ≡ false → seen x ≡ e → (NamesAgree s e → (want : Want) → IsTyped s want e) → Fresh x
  any_made x e plain is h = record { made = any_base x e is h; plain = ap names_function is ∙ plain }

  -- Values.

  unless_value : (u : Ty) → tree.is_array u ≡ false → unless_array u ≡ Value
  unless_value u h = ap (λ b. if b then Place' else Value) h

  pub unless_place : (u : Ty) → tree.is_array u ≡ true → unless_array u ≡ Place'
  unless_place u h = ap (λ b. if b then Place' else Value) h

  type_seen : (P : Ty → Bool) (Q : CType → Bool) → ((t : CType) → P (type t) ≡ Q t) → (x : TExpr) (b : Bool) → Q (type_of x) ≡ b → P (tree.type_of (seen x)) ≡ b
  type_seen P Q eq x b h = ap P (typed_of s.structs x) ∙ eq (type_of x) ∙ h

  pub seen_integer : (x : TExpr) (b : Bool) → typed.is_integer (type_of x) ≡ b → tree.is_integer (tree.type_of (seen x)) ≡ b
  seen_integer x b h = type_seen tree.is_integer typed.is_integer integer_seen x b h

  pub seen_pointer : (x : TExpr) (b : Bool) → typed.is_pointer (type_of x) ≡ b → tree.is_pointer (tree.type_of (seen x)) ≡ b
  seen_pointer x b h = type_seen tree.is_pointer typed.is_pointer pointer_seen x b h

  pub seen_array : (x : TExpr) (b : Bool) → typed.is_array (type_of x) ≡ b → tree.is_array (tree.type_of (seen x)) ≡ b
  seen_array x b h = type_seen tree.is_array typed.is_array array_seen x b h

  pub seen_function : (x : TExpr) (b : Bool) → typed.is_function (type_of x) ≡ b → is_function (tree.type_of (seen x)) ≡ b
  seen_function x b h = type_seen is_function typed.is_function function_seen x b h

  pub seen_scalar : (x : TExpr) (b : Bool) → typed.is_scalar (type_of x) ≡ b → is_scalar (tree.type_of (seen x)) ≡ b
  seen_scalar x b h = type_seen is_scalar typed.is_scalar scalar_seen x b h

  -- A converted value.

  pub value_typed : (x : TExpr) → Valued x → NamesAgree s (seen x) → IsTyped s (unless_array (tree.type_of (seen x))) (seen x)
  value_typed x v names = subst (λ w. IsTyped s w (seen x)) (sym (unless_value _ (seen_array x false v.no_array))) (v.value names)

  pub convert_typed : (x : TExpr) (t : CType) → IsTyped s (unless_array (tree.type_of (seen x))) (seen x) → converts_to (tree.type_of (seen x)) (type t) ≡ true → IsTyped s Value (seen (convert x t))
  convert_typed x t h goes = subst (IsTyped s Value) (sym (convert_seen s.structs x t (place_of x))) (h, tt, goes)

  pub convert_names : (x : TExpr) (t : CType) → NamesAgree s (seen (convert x t)) → NamesAgree s (seen x)
  convert_names x t h = subst (NamesAgree s) (convert_seen s.structs x t (place_of x)) h

  -- a value that was brought to a type
  pub record Brought (t : CType) (y : TExpr) : Type 0 where
    pub value : NamesAgree s (seen y) → IsTyped s Value (seen y)
    pub type : tree.type_of (seen y) ≡ type t

  brought_by : (b : Bool) (t : CType) (x : TExpr) → typed.same (type_of x) t ≡ b → Valued x → converts_to (tree.type_of (seen x)) (type t) ≡ true → Brought t (if b then x else convert x t)
  brought_by true t x is v goes =
      record { value = v.value; type = typed_of s.structs x ∙ same_type_seen (type_of x) t is }
  brought_by false t x is v goes =
      record {
        value = λ names. convert_typed x t (value_typed x v (convert_names x t names)) goes;
        type = ap tree.type_of (convert_seen s.structs x t (place_of x));
      }

  pub brought : (t : CType) (x : TExpr) → Valued x → converts_to (tree.type_of (seen x)) (type t) ≡ true → Brought t (to t x)
  brought t x v goes = brought_by (typed.same (type_of x) t) t x refl v goes

  -- Which types a value goes to.

  integer_goes : (u t : Ty) → tree.is_integer u ≡ true → is_scalar t ≡ true → converts_to u t ≡ true
  integer_goes tree.Bool' t h k = ap (λ b. tree.is_void t || b) k ∙ any_or (tree.is_void t)
  integer_goes (Int i) t h k = ap (λ b. tree.is_void t || b) k ∙ any_or (tree.is_void t)
  integer_goes _ t h k = absurd (true≢false (sym h))

  pointer_goes : (u t : Ty) → tree.is_pointer u ≡ true → (tree.is_pointer t || tree.is_bool t) ≡ true → converts_to u t ≡ true
  pointer_goes (tree.Ptr v) t h k = ap (λ b. tree.is_void t || b) k ∙ any_or (tree.is_void t)
  pointer_goes _ t h k = absurd (true≢false (sym h))

  pub integer_to : (x : TExpr) (t : CType) → typed.is_integer (type_of x) ≡ true → typed.is_scalar t ≡ true → converts_to (tree.type_of (seen x)) (type t) ≡ true
  integer_to x t h k = integer_goes (tree.type_of (seen x)) (type t) (seen_integer x true h) (scalar_seen t ∙ k)

  pub pointer_to : (x : TExpr) (t : CType) → typed.is_pointer (type_of x) ≡ true → (typed.is_pointer t || typed.is_bool t) ≡ true → converts_to (tree.type_of (seen x)) (type t) ≡ true
  pointer_to x t h k =
      pointer_goes (tree.type_of (seen x)) (type t) (seen_pointer x true h) (ap (λ b. b || tree.is_bool (type t)) (pointer_seen t) ∙ (ap (λ b. typed.is_pointer t || b) (bool_seen t) ∙ k))
