-- Operators between two operands, and assignment, make expressions that are typed.
use Rattle.std.proofs.Common.{◌≡◌, ◌⊎◌, ℕ, Bool, true, false, not, ◌&&◌, ◌||◌, List, [], ◌∷◌, map, refl, sym, ap, subst, ◌∙◌, inl, inr}
use Rattle.std.proofs.lemmas.Bool.{true≢false, and_parts, and_from, or_cases, or_left, or_right}
use Rattle.std.specs.Prelude.{Option, Some, None, if◌then◌else◌}
use Rattle.sc_base.specs.declared.skip.Unsupported.TheVariants as u
use Rattle.sc_base.specs.declared.skip.IllTyped.TheVariants as i
use Rattle.sc_tree.specs.declared.op.BinaryOp.{BinaryOp}
use Rattle.sc_tree.specs.declared.op.BinaryOp.TheVariants as op
use Rattle.sc_tree.specs.declared.ctype.CType.{CType, CType-F, out-CType}
use Rattle.sc_tree.specs.declared.ctype.CType.TheVariants as ty
use Rattle.sc_tree.specs.declared.ctype.Signature.{Signature}
use Rattle.sc_tree.specs.declared.ctype.IntKind.{IntKind}
use Rattle.sc_tree.specs.declared.ctype.Widths.{Widths}
use Rattle.sc_tree.specs.declared.expr.Place.{Place}
use Rattle.sc_typed.specs.declared.expr.TExpr.{TExpr, out-TExpr}
use Rattle.sc_typed.specs.declared.expr.What.TheVariants as what
use Rattle.sc_typed.specs.Kinds.{common}
use Rattle.sc_typed.specs.Types as typed
use Rattle.sc_typed.specs.Constants.{is_null_constant}
use Rattle.sc_rules.specs.Faults.{ill_typed_at, unsupported_at}
use Rattle.sc_rules.specs.Walks.{Check, done}
use Rattle.sc_rules.specs.Conversions.{node, type_of, to, promote, common_of}
use Rattle.sc_manners.specs.Manners.{both_integers, some_pointer}
use Rattle.sc_operators.specs.Binary.{int, in_common, on_common, compared, additive, ordering, is_comparable, left_follows, pointers_compared, pointer_equality, equality, shifting, logical, binary}
use Rattle.sc_world.specs.Tree as tree
use Rattle.sc_world.specs.Tree.{Ty, Int, Ptr, Exp, Binary}
use Rattle.sc_world.specs.Source.{Source}
use Rattle.sc_world.specs.View.{type, exp}
use Rattle.sc_world.specs.Eval.{Value, is_logical}
use Rattle.run_laws.specs.Fits.{is_scalar, operands_fit, compares_pointers, in_one_type, gives_truth, TypesMeet, converts_to}
use Rattle.fitting_laws.specs.Typed.{IsTyped}
use Rattle.typed_laws.specs.Named.{NamesAgree}
use Rattle.typed_laws.proofs.Types.{pointer_seen, type_int}
use Rattle.typed_laws.proofs.Trees.{typed_of, binary_seen, binary_value}
use Rattle.typed_laws.proofs.Nulls.{null_scalar}
use Rattle.typed_laws.proofs.Steps.{OnSome, Every, Gives, by_some, by_fault, by_if, by_unless}
use Rattle.typed_laws.proofs.Made.{clash, is_object, seen, Made, Fresh, Valued, Brought, read_made, seen_integer, seen_pointer, seen_scalar, brought, integer_to, pointer_to}

never : {A : Type 0} → false ≡ true → A
never h = absurd (true≢false (sym h))

-- Which operands fit.

pub integers_fit : (o : BinaryOp) (t u : Ty) → tree.is_integer t ≡ true → tree.is_integer u ≡ true → operands_fit o t u ≡ true
integers_fit o t u h k = side (is_logical o)
  where
    scalars : (is_scalar t && is_scalar u) ≡ true
    scalars = and_from (is_scalar t) (is_scalar u) (or_left (tree.is_integer t) (tree.is_pointer t) h) (or_left (tree.is_integer u) (tree.is_pointer u) k)

    side : (b : Bool) → (if b then is_scalar t && is_scalar u else ((tree.is_integer t && tree.is_integer u) || (compares_pointers o && (tree.is_pointer t && tree.is_pointer u)))) ≡ true
    side true = scalars
    side false = or_left (tree.is_integer t && tree.is_integer u) (compares_pointers o && (tree.is_pointer t && tree.is_pointer u)) (and_from (tree.is_integer t) (tree.is_integer u) h k)

abbrev FitPointers : BinaryOp → Type 0
FitPointers o = (t u : Ty) → tree.is_pointer t ≡ true → tree.is_pointer u ≡ true → operands_fit o t u ≡ true

equal_fits : FitPointers op.Equal
equal_fits (Ptr t) (Ptr u) h k = refl
equal_fits (Ptr t) _ h k = never k
equal_fits _ u h k = never h

unequal_fits : FitPointers op.NotEqual
unequal_fits (Ptr t) (Ptr u) h k = refl
unequal_fits (Ptr t) _ h k = never k
unequal_fits _ u h k = never h

pub int_out : (k : IntKind) → out-CType (ty.Int k) ≡ CType-F.Int k
unfolding out-CType denote.Hole.Carrier.out
int_out k = refl

pub int_integer : (k : IntKind) → typed.is_integer (ty.Int k) ≡ true
int_integer k = ap typed.is_integer_layer (int_out k)

pub int_scalar : (k : IntKind) → typed.is_scalar (ty.Int k) ≡ true
int_scalar k = or_left (typed.is_integer (ty.Int k)) (typed.is_pointer (ty.Int k)) (int_integer k)

pub int_no_object : (k : IntKind) → is_object (ty.Int k) ≡ false
int_no_object k = ap (λ f. typed.is_aggregate_layer f || (typed.is_array_layer f || typed.is_function_layer f)) (int_out k)

pub int_seen : (k : IntKind) → tree.is_integer (type (ty.Int k)) ≡ true
int_seen k = ap tree.is_integer (type_int k)

left_is : (pa pb na nb : Bool) → (pa || pb) ≡ true → (pb || nb) ≡ true → (not pa || (na && not nb)) ≡ true → pb ≡ true
left_is pa true na nb h k l = refl
left_is true false true true h k l = never l
left_is true false false true h k l = never l
left_is true false na false h k l = never k
left_is false false na nb h k l = never h

right_is : (pa pb na nb : Bool) → (not pa || (na && not nb)) ≡ false → pa ≡ true
right_is true pb na nb l = refl
right_is false pb na nb l = never (sym l)

-- a test of operands as they are
as_they_are : (o : BinaryOp) (t u v : Ty) → in_one_type o ≡ false → gives_truth o ≡ true → TypesMeet o t u v
as_they_are o t u v apart truth = record { same = λ one integer. clash one apart; keeps = λ other. clash truth other }

-- a test of operands of one type
of_one_type : (o : BinaryOp) (t u v : Ty) → t ≡ u → gives_truth o ≡ true → TypesMeet o t u v
of_one_type o t u v is truth = record { same = λ one integer. is; keeps = λ other. clash truth other }

module _ (s : Source) where
  -- what an operator makes of two operands
  binary_made : (o : BinaryOp) (k : IntKind) (p : Place) (a b : TExpr) → (NamesAgree s (seen s a) → IsTyped s Value (seen s a)) → (NamesAgree s (seen s b) → IsTyped s Value (seen s b))
      → operands_fit o (tree.type_of (seen s a)) (tree.type_of (seen s b)) ≡ true → TypesMeet o (tree.type_of (seen s a)) (tree.type_of (seen s b)) (type (ty.Int k))
      → Fresh s (node (what.Binary o a b) (ty.Int k) p)
  binary_made o k p a b h l fit meet =
      read_made s (node (what.Binary o a b) (ty.Int k) p) (Binary o (seen s a) (seen s b) (type (ty.Int k))) refl (binary_seen s.structs o a b (ty.Int k) p) (binary_value o a b (ty.Int k) p) (int_no_object k)
      (λ names. (h names.0, l names.1, tt, int_seen k, fit, meet))

  -- an operand in an integer type
  pub in_integer : (k : IntKind) (x : TExpr) → Valued s x → typed.is_integer (type_of x) ≡ true → Brought s (ty.Int k) (to (ty.Int k) x)
  in_integer k x v h = brought s (ty.Int k) x v (integer_to s x (ty.Int k) h (int_scalar k))

  pub brought_integer : (k : IntKind) (y : TExpr) → Brought s (ty.Int k) y → tree.is_integer (tree.type_of (seen s y)) ≡ true
  brought_integer k y r = ap tree.is_integer r.type ∙ int_seen k

  -- the kinds of two operands, and that of what the operator makes of them
  record KindsMeet (o : BinaryOp) (i j k : IntKind) : Type 0 where
    same : in_one_type o ≡ true → i ≡ j
    keeps : gives_truth o ≡ false → k ≡ i

  kinds_meet : (o : BinaryOp) (i j k : IntKind) (a b : TExpr) → Brought s (ty.Int i) a → Brought s (ty.Int j) b → KindsMeet o i j k
      → TypesMeet o (tree.type_of (seen s a)) (tree.type_of (seen s b)) (type (ty.Int k))
  kinds_meet o i j k a b x y meet =
      record {
        same = λ one integer. x.type ∙ (ap (λ n. type (ty.Int n)) (meet.same one) ∙ sym y.type);
        keeps = λ other. ap (λ n. type (ty.Int n)) (meet.keeps other) ∙ sym x.type;
      }

  -- two operands in integer types
  integers_made : (o : BinaryOp) (k : IntKind) (p : Place) (i j : IntKind) (a b : TExpr) → Brought s (ty.Int i) a → Brought s (ty.Int j) b → KindsMeet o i j k
      → Fresh s (node (what.Binary o a b) (ty.Int k) p)
  integers_made o k p i j a b x y meet =
      binary_made o k p a b x.value y.value (integers_fit o (tree.type_of (seen s a)) (tree.type_of (seen s b)) (brought_integer i a x) (brought_integer j b y))
      (kinds_meet o i j k a b x y meet)

  abbrev meets : Widths → TExpr → TExpr → IntKind
  meets w a b = common w (typed.promoted_kind (type_of a)) (typed.promoted_kind (type_of b))

  module _ (w : Widths) (p : Place) (a b : TExpr) (x : Valued s a) (y : Valued s b) where
    both : both_integers a b ≡ true → (typed.is_integer (type_of a) ≡ true) × (typed.is_integer (type_of b) ≡ true)
    both h = and_parts (typed.is_integer (type_of a)) (typed.is_integer (type_of b)) h

    common_made : (o : BinaryOp) (k : IntKind) → (gives_truth o ≡ false → k ≡ meets w a b) → both_integers a b ≡ true → Fresh s (node (in_common w o a b) (ty.Int k) p)
    common_made o k keeps h =
        integers_made o k p (meets w a b) (meets w a b) (to (common_of w a b) a) (to (common_of w a b) b) (in_integer (meets w a b) a x (both h).0) (in_integer (meets w a b) b y (both h).1)
        (record { same = λ one. refl; keeps = keeps })

    on_common_made : (o : BinaryOp) → Gives (Fresh s) (on_common w o p a b)
    on_common_made o = by_unless (Fresh s) (both_integers a b) _ (ill_typed_at i.Operand p.token) (λ h. by_some (Fresh s) (node (in_common w o a b) (common_of w a b) p) (common_made o (meets w a b) (λ other. refl) h))

    compared_made : (o : BinaryOp) → gives_truth o ≡ true → Gives (Fresh s) (compared w o p a b)
    compared_made o truth = by_unless (Fresh s) (both_integers a b) _ (ill_typed_at i.Operand p.token) (λ h. by_some (Fresh s) (node (in_common w o a b) int p) (common_made o _ (λ other. clash truth other) h))

    additive_made : (o : BinaryOp) → Gives (Fresh s) (additive w o p a b)
    additive_made o = by_if (OnSome (Fresh s)) (some_pointer a b) _ _ (λ h. by_fault (Fresh s) (unsupported_at u.Arith p.token)) (λ h. on_common_made o)

    ordering_made : (o : BinaryOp) → gives_truth o ≡ true → Gives (Fresh s) (ordering w o p a b)
    ordering_made o truth = by_if (OnSome (Fresh s)) (some_pointer a b) _ _ (λ h. by_fault (Fresh s) (unsupported_at u.Order p.token)) (λ h. compared_made o truth)

    shifting_made : (o : BinaryOp) → in_one_type o ≡ false → Gives (Fresh s) (shifting o p a b)
    shifting_made o apart =
        by_unless (Fresh s) (both_integers a b) _ (ill_typed_at i.Operand p.token) (λ h.
        by_some (Fresh s) (node (what.Binary o (promote a) (promote b)) (ty.Int (typed.promoted_kind (type_of a))) p)
        (integers_made o (typed.promoted_kind (type_of a)) p (typed.promoted_kind (type_of a)) (typed.promoted_kind (type_of b)) (promote a) (promote b)
        (in_integer (typed.promoted_kind (type_of a)) a x (both h).0) (in_integer (typed.promoted_kind (type_of b)) b y (both h).1)
        (record { same = λ one. clash one apart; keeps = λ other. refl })))

    logical_made : (o : BinaryOp) → is_logical o ≡ true → in_one_type o ≡ false → gives_truth o ≡ true → Gives (Fresh s) (logical o p a b)
    logical_made o logic apart truth =
        by_unless (Fresh s) (typed.is_scalar (type_of a) && typed.is_scalar (type_of b)) _ (ill_typed_at i.Operand p.token) (λ h.
        by_some (Fresh s) (node (what.Binary o a b) int p) (binary_made o _ p a b x.value y.value
        (ap (λ b'. if b' then is_scalar (tree.type_of (seen s a)) && is_scalar (tree.type_of (seen s b)) else ((tree.is_integer (tree.type_of (seen s a)) && tree.is_integer (tree.type_of (seen s b))) || (compares_pointers o && (tree.is_pointer (tree.type_of (seen s a)) && tree.is_pointer (tree.type_of (seen s b)))))) logic
        ∙ and_from (is_scalar (tree.type_of (seen s a))) (is_scalar (tree.type_of (seen s b))) (seen_scalar s a true (and_parts (typed.is_scalar (type_of a)) (typed.is_scalar (type_of b)) h).0) (seen_scalar s b true (and_parts (typed.is_scalar (type_of a)) (typed.is_scalar (type_of b)) h).1))
        (as_they_are o (tree.type_of (seen s a)) (tree.type_of (seen s b)) (type int) apart truth)))

    -- Pointers that are compared.

    goes_to_pointer : (e : TExpr) (t : CType) → is_comparable w e ≡ true → typed.is_pointer t ≡ true → converts_to (tree.type_of (seen s e)) (type t) ≡ true
    goes_to_pointer e t h k = side (or_cases (typed.is_pointer (type_of e)) (is_null_constant w e) h)
      where
        by_pointer : typed.is_pointer (type_of e) ≡ true → converts_to (tree.type_of (seen s e)) (type t) ≡ true
        by_pointer j = pointer_to s e t j (or_left (typed.is_pointer t) (typed.is_bool t) k)

        by_null : (typed.is_integer (type_of e) ≡ true) ⊎ (typed.is_pointer (type_of e) ≡ true) → converts_to (tree.type_of (seen s e)) (type t) ≡ true
        by_null (inl j) = integer_to s e t j (or_right (typed.is_integer t) (typed.is_pointer t) k)
        by_null (inr j) = by_pointer j

        side : (typed.is_pointer (type_of e) ≡ true) ⊎ (is_null_constant w e ≡ true) → converts_to (tree.type_of (seen s e)) (type t) ≡ true
        side (inl j) = by_pointer j
        side (inr j) = by_null (null_scalar w e j)

    abbrev ByPointers : (o : BinaryOp) → Bool → Type 0
    ByPointers o left = Fresh s (if left then node (what.Binary o (to (type_of b) a) b) int p else node (what.Binary o a (to (type_of a) b)) int p)

    pointers_made : (o : BinaryOp) → FitPointers o → gives_truth o ≡ true → some_pointer a b ≡ true → is_comparable w a ≡ true → is_comparable w b ≡ true → Fresh s (pointers_compared w o p a b)
    pointers_made o fit truth some ca cb = side (left_follows w a b) refl
      where
        side : (left : Bool) → left_follows w a b ≡ left → ByPointers o left
        side true h =
            let pb : typed.is_pointer (type_of b) ≡ true = left_is (typed.is_pointer (type_of a)) (typed.is_pointer (type_of b)) (is_null_constant w a) (is_null_constant w b) some cb h in
            let r = brought s (type_of b) a x (goes_to_pointer a (type_of b) ca pb) in
            binary_made o _ p (to (type_of b) a) b r.value y.value (fit (tree.type_of (seen s (to (type_of b) a))) (tree.type_of (seen s b)) (ap tree.is_pointer r.type ∙ (pointer_seen (type_of b) ∙ pb)) (seen_pointer s b true pb))
            (of_one_type o (tree.type_of (seen s (to (type_of b) a))) (tree.type_of (seen s b)) (type int) (r.type ∙ sym (typed_of s.structs b)) truth)
        side false h =
            let pa : typed.is_pointer (type_of a) ≡ true = right_is (typed.is_pointer (type_of a)) (typed.is_pointer (type_of b)) (is_null_constant w a) (is_null_constant w b) h in
            let r = brought s (type_of a) b y (goes_to_pointer b (type_of a) cb pa) in
            binary_made o _ p a (to (type_of a) b) x.value r.value (fit (tree.type_of (seen s a)) (tree.type_of (seen s (to (type_of a) b))) (seen_pointer s a true pa) (ap tree.is_pointer r.type ∙ (pointer_seen (type_of a) ∙ pa)))
            (of_one_type o (tree.type_of (seen s a)) (tree.type_of (seen s (to (type_of a) b))) (type int) (typed_of s.structs a ∙ sym r.type) truth)

    equality_made : (o : BinaryOp) → FitPointers o → gives_truth o ≡ true → Gives (Fresh s) (equality w o p a b)
    equality_made o fit truth =
        by_if (OnSome (Fresh s)) (some_pointer a b) _ _ (λ some.
        by_unless (Fresh s) (is_comparable w a && is_comparable w b) _ (ill_typed_at i.Operand p.token) (λ h.
        by_some (Fresh s) (pointers_compared w o p a b) (pointers_made o fit truth some (and_parts (is_comparable w a) (is_comparable w b) h).0 (and_parts (is_comparable w a) (is_comparable w b) h).1)))
        (λ none. compared_made o truth)

    pub operators_made : (o : BinaryOp) → Gives (Fresh s) (binary w o p a b)
    operators_made op.And = logical_made op.And refl refl refl
    operators_made op.Or = logical_made op.Or refl refl refl
    operators_made op.Equal = equality_made op.Equal equal_fits refl
    operators_made op.NotEqual = equality_made op.NotEqual unequal_fits refl
    operators_made op.Less = ordering_made op.Less refl
    operators_made op.Greater = ordering_made op.Greater refl
    operators_made op.LessEqual = ordering_made op.LessEqual refl
    operators_made op.GreaterEqual = ordering_made op.GreaterEqual refl
    operators_made op.ShiftLeft = shifting_made op.ShiftLeft refl
    operators_made op.ShiftRight = shifting_made op.ShiftRight refl
    operators_made op.Add = additive_made op.Add
    operators_made op.Sub = additive_made op.Sub
    operators_made op.Mul = on_common_made op.Mul
    operators_made op.Div = on_common_made op.Div
    operators_made op.Rem = on_common_made op.Rem
    operators_made op.BitAnd = on_common_made op.BitAnd
    operators_made op.BitXor = on_common_made op.BitXor
    operators_made op.BitOr = on_common_made op.BitOr
