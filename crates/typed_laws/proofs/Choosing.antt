-- `? :` and the comma operator make expressions that are typed.
use Rattle.std.proofs.Common.{◌≡◌, ◌⊎◌, ℕ, Bool, true, false, not, ◌&&◌, ◌||◌, List, [], ◌∷◌, map, refl, sym, ap, subst, ◌∙◌, inl, inr}
use Rattle.std.proofs.lemmas.Bool.{true≢false, and_parts, and_from, or_cases, or_left, or_right, or_parts}
use Rattle.std.specs.Prelude.{Option, Some, None, if◌then◌else◌}
use Rattle.sc_base.specs.declared.skip.Unsupported.TheVariants as u
use Rattle.sc_base.specs.declared.skip.IllTyped.TheVariants as i
use Rattle.sc_tree.specs.declared.ctype.CType.{CType, CType-F, out-CType}
use Rattle.sc_tree.specs.declared.ctype.CType.TheVariants as ty
use Rattle.sc_tree.specs.declared.ctype.Widths.{Widths}
use Rattle.sc_tree.specs.declared.expr.Place.{Place}
use Rattle.sc_typed.specs.declared.expr.TExpr.{TExpr, out-TExpr}
use Rattle.sc_typed.specs.declared.expr.What.TheVariants as what
use Rattle.sc_typed.specs.Kinds.{common}
use Rattle.sc_typed.specs.Types as typed
use Rattle.sc_typed.specs.Constants.{is_lvalue, is_null_constant}
use Rattle.sc_rules.specs.Faults.{ill_typed_at, unsupported_at}
use Rattle.sc_rules.specs.Walks.{Check, ◌>>=◌, done}
use Rattle.sc_rules.specs.Conversions.{node, type_of, place_of, to, common_of}
use Rattle.sc_manners.specs.Manners.{both_integers, some_pointer}
use Rattle.sc_operators.specs.Conditionals.{pointer_arms, follows_pointer, mixed_arms, arms_type, chosen, conditional_to, no_aggregate, conditional_of, conditional, comma}
use Rattle.sc_world.specs.Tree as tree
use Rattle.sc_world.specs.Tree.{Ty, Int, Exp, Cond, Comma}
use Rattle.sc_world.specs.Source.{Source}
use Rattle.sc_world.specs.View.{type, exp}
use Rattle.sc_world.specs.Eval.{Want, Value, Place'}
use Rattle.run_laws.specs.Fits.{is_scalar, converts_to}
use Rattle.fitting_laws.specs.Typed.{IsTyped, names_function}
use Rattle.typed_laws.specs.Named.{NamesAgree}
use Rattle.typed_laws.proofs.Types.{type_void}
use Rattle.typed_laws.proofs.Trees.{typed_of, cond_seen, cond_value, comma_seen, comma_value}
use Rattle.typed_laws.proofs.Nulls.{null_scalar}
use Rattle.typed_laws.proofs.Steps.{OnSome, Every, Gives, by_then, by_done, by_some, by_none, by_fault, by_if, by_unless}
use Rattle.typed_laws.proofs.Made.{clash, is_object, seen, Made, Fresh, Valued, Brought, read_made, seen_scalar, brought, integer_to, pointer_to}
use Rattle.typed_laws.proofs.Operators.{int_scalar, int_no_object}
use Rattle.typed_laws.proofs.Values.{pointer_no_object}

-- a choice between two values
on_if : {A : Type 0} (P : A → Type 0) (b : Bool) (x y : A) → (b ≡ true → P x) → (b ≡ false → P y) → P (if b then x else y)
on_if P true x y k l = k refl
on_if P false x y k l = l refl

module _ (s : Source) where
  -- both arms go to the type, which is none of an object
  abbrev Arms : TExpr → TExpr → CType → Type 0
  Arms b c t =
      (converts_to (tree.type_of (seen s b)) (type t) ≡ true) × (converts_to (tree.type_of (seen s c)) (type t) ≡ true) × (is_object t ≡ false)

  to_pointer : (e : TExpr) (t : CType) → typed.is_pointer t ≡ true → (typed.is_integer (type_of e) ≡ true) ⊎ (typed.is_pointer (type_of e) ≡ true) → converts_to (tree.type_of (seen s e)) (type t) ≡ true
  to_pointer e t h (inl k) = integer_to s e t k (or_right (typed.is_integer t) (typed.is_pointer t) h)
  to_pointer e t h (inr k) = pointer_to s e t k (or_left (typed.is_pointer t) (typed.is_bool t) h)

  void_goes : (x : Ty) (t : Ty) → t ≡ tree.Void → converts_to x t ≡ true
  void_goes x t is = subst (λ z. converts_to x z ≡ true) (sym is) refl

  module _ (w : Widths) where
    -- the first is null, the second is a pointer
    follows : (b c : TExpr) → follows_pointer w b c ≡ true → (is_null_constant w b ≡ true) × (typed.is_pointer (type_of c) ≡ true)
    follows b c h =
        let all = and_parts (is_null_constant w b) (not (is_null_constant w c) && typed.is_pointer (type_of c)) h in
        (all.0, (and_parts (not (is_null_constant w c)) (typed.is_pointer (type_of c)) all.1).1)

    pointers : (b c : TExpr) → OnSome (Arms b c) (pointer_arms w b c)
    unfolding out-CType denote.Hole.Carrier.out
    pointers b c =
        on_if (OnSome (Arms b c)) (typed.is_pointer (type_of b) && typed.is_pointer (type_of c)) _ _
        (λ h. let both = and_parts (typed.is_pointer (type_of b)) (typed.is_pointer (type_of c)) h in
        on_if (Arms b c) (typed.is_void_pointer (type_of c)) (type_of c) (type_of b)
        (λ k. (to_pointer b (type_of c) both.1 (inr both.0), to_pointer c (type_of c) both.1 (inr both.1), pointer_no_object (type_of c) both.1))
        (λ k. (to_pointer b (type_of b) both.0 (inr both.0), to_pointer c (type_of b) both.0 (inr both.1), pointer_no_object (type_of b) both.0)))
        (λ h. on_if (OnSome (Arms b c)) (is_null_constant w b && is_null_constant w c) (Some (ty.Ptr ty.Void)) None
        (λ k. let both = and_parts (is_null_constant w b) (is_null_constant w c) k in
        (to_pointer b (ty.Ptr ty.Void) refl (null_scalar w b both.0), to_pointer c (ty.Ptr ty.Void) refl (null_scalar w c both.1), pointer_no_object (ty.Ptr ty.Void) refl))
        (λ k. tt))

    mixed : (b c : TExpr) → OnSome (Arms b c) (mixed_arms w b c)
    mixed b c =
        on_if (OnSome (Arms b c)) (follows_pointer w b c) (Some (type_of c)) (if follows_pointer w c b then Some (type_of b) else pointer_arms w b c)
        (λ h. let f = follows b c h in
        (to_pointer b (type_of c) f.1 (null_scalar w b f.0), to_pointer c (type_of c) f.1 (inr f.1), pointer_no_object (type_of c) f.1))
        (λ h. on_if (OnSome (Arms b c)) (follows_pointer w c b) (Some (type_of b)) (pointer_arms w b c)
        (λ k. let f = follows c b k in
        (to_pointer b (type_of b) f.1 (inr f.1), to_pointer c (type_of b) f.1 (null_scalar w c f.0), pointer_no_object (type_of b) f.1))
        (λ k. pointers b c))

    arms : (b c : TExpr) → OnSome (Arms b c) (arms_type w b c)
    unfolding out-CType denote.Hole.Carrier.out
    arms b c =
        on_if (OnSome (Arms b c)) (both_integers b c) (Some (common_of w b c)) (if typed.is_void (type_of b) && typed.is_void (type_of c) then Some ty.Void else (if some_pointer b c then mixed_arms w b c else None))
        (λ h. let both = and_parts (typed.is_integer (type_of b)) (typed.is_integer (type_of c)) h in (
          integer_to s b (common_of w b c) both.0 (int_scalar (common w (typed.promoted_kind (type_of b)) (typed.promoted_kind (type_of c)))),
          integer_to s c (common_of w b c) both.1 (int_scalar (common w (typed.promoted_kind (type_of b)) (typed.promoted_kind (type_of c)))),
          int_no_object (common w (typed.promoted_kind (type_of b)) (typed.promoted_kind (type_of c))),
        ))
        (λ h. on_if (OnSome (Arms b c)) (typed.is_void (type_of b) && typed.is_void (type_of c)) (Some ty.Void) (if some_pointer b c then mixed_arms w b c else None)
        (λ k. (void_goes (tree.type_of (seen s b)) (type ty.Void) type_void, void_goes (tree.type_of (seen s c)) (type ty.Void) type_void, refl))
        (λ k. on_if (OnSome (Arms b c)) (some_pointer b c) (mixed_arms w b c) None (λ l. mixed b c) (λ l. tt)))

    chosen_made : (t : CType) (p : Place) (a b c : TExpr) → Valued s a → Valued s b → Valued s c → Arms b c t → typed.is_scalar (type_of a) ≡ true → Fresh s (chosen t p a b c)
    chosen_made t p a b c x y z h k =
        let m = brought s t b y h.0 in
        let n = brought s t c z h.1 in
        read_made s (chosen t p a b c) (Cond (seen s a) (seen s (to t b)) (seen s (to t c)) (type t)) refl (cond_seen s.structs a (to t b) (to t c) t p) (cond_value a (to t b) (to t c) t p) h.2
        (λ names. (x.value names.0, m.value names.1, n.value names.2, seen_scalar s a true k, m.type, n.type))

    to_made : (o : Option CType) (p : Place) (a b c : TExpr) → Valued s a → Valued s b → Valued s c → OnSome (Arms b c) o → Gives (Fresh s) (conditional_to o p a b c)
    to_made None p a b c x y z h = by_fault (Fresh s) (ill_typed_at i.Operand p.token)
    to_made (Some t) p a b c x y z h =
        by_unless (Fresh s) (typed.is_scalar (type_of a)) _ (ill_typed_at i.Operand p.token) (λ k. by_some (Fresh s) (chosen t p a b c) (chosen_made t p a b c x y z h k))

    of_made : (p : Place) (a b c : Option TExpr) → OnSome (Valued s) a → OnSome (Valued s) b → OnSome (Valued s) c → Gives (Fresh s) (conditional_of w p a b c)
    of_made p None b c x y z = by_none (Fresh s)
    of_made p (Some a) None c x y z = by_none (Fresh s)
    of_made p (Some a) (Some b) None x y z = by_none (Fresh s)
    of_made p (Some a) (Some b) (Some c) x y z = to_made (arms_type w b c) p a b c x y z (arms b c)

    no_aggregate_made : (e : Option TExpr) → OnSome (Valued s) e → Gives (Valued s) (no_aggregate e)
    no_aggregate_made None h = by_none (Valued s)
    no_aggregate_made (Some e) h =
        by_if (OnSome (Valued s)) (typed.is_aggregate (type_of e)) _ _ (λ k. by_fault (Valued s) (unsupported_at u.Struct (place_of e).first)) (λ k. by_some (Valued s) e h)

    pub conditional_made : (p : Place) (a b c : Option TExpr) → OnSome (Valued s) a → OnSome (Valued s) b → OnSome (Valued s) c → Gives (Fresh s) (conditional w p a b c)
    conditional_made p a b c x y z =
        by_then (OnSome (Valued s)) (OnSome (Fresh s)) (no_aggregate a) _ (no_aggregate_made a x) (λ a' x'.
        by_then (OnSome (Valued s)) (OnSome (Fresh s)) (no_aggregate b) _ (no_aggregate_made b y) (λ b' y'.
        by_then (OnSome (Valued s)) (OnSome (Fresh s)) (no_aggregate c) (λ c'. conditional_of w p a' b' c') (no_aggregate_made c z) (λ c' z'. of_made p a' b' c' x' y' z')))

  pub comma_made : (p : Place) (a b : TExpr) → Valued s a → Valued s b → Fresh s (comma p a b)
  comma_made p a b x y =
      record {
        made = record {
          value = λ names o. subst (IsTyped s Value) (sym is) (holds Value y.value (subst (NamesAgree s) is names));
          place = λ names l. clash l (comma_value a b (type_of b) p);
          object = λ names o. subst (IsTyped s Place') (sym is) (holds Place' (λ n. y.object n o) (subst (NamesAgree s) is names));
        };
        plain = ap names_function is;
      }
    where
      is : seen s (comma p a b) ≡ Comma (seen s a) (seen s b) (type (type_of b))
      is = comma_seen s.structs a b (type_of b) p

      holds : (want : Want) → (NamesAgree s (seen s b) → IsTyped s want (seen s b)) → NamesAgree s (Comma (seen s a) (seen s b) (type (type_of b))) → IsTyped s want (Comma (seen s a) (seen s b) (type (type_of b)))
      holds want h names = (x.value names.0, h names.1, typed_of s.structs b)
