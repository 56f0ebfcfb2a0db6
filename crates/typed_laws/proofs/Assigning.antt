-- Assignment, `++` and `--` make expressions that are typed.
use Rattle.std.proofs.Common.{◌≡◌, ◌⊎◌, ℕ, Bool, true, false, not, ◌&&◌, ◌||◌, List, [], ◌∷◌, map, refl, sym, ap, subst, ◌∙◌, inl, inr}
use Rattle.std.proofs.lemmas.Bool.{true≢false, and_parts, and_from, or_cases, or_left, or_right}
use Rattle.std.specs.Prelude.{Option, Some, None, if◌then◌else◌}
use Rattle.sc_base.specs.declared.skip.Unsupported.TheVariants as u
use Rattle.sc_base.specs.declared.skip.IllTyped.TheVariants as i
use Rattle.sc_tree.specs.declared.op.BinaryOp.{BinaryOp}
use Rattle.sc_tree.specs.declared.op.BinaryOp.TheVariants as op
use Rattle.sc_tree.specs.declared.op.AssignOp.{AssignOp}
use Rattle.sc_tree.specs.declared.op.AssignOp.TheVariants as assign
use Rattle.sc_tree.specs.declared.op.Step.{Step}
use Rattle.sc_tree.specs.declared.ctype.CType.{CType, CType-F, out-CType}
use Rattle.sc_tree.specs.declared.ctype.CType.TheVariants as ty
use Rattle.sc_tree.specs.declared.ctype.Signature.{Signature}
use Rattle.sc_tree.specs.declared.ctype.OpaqueKind.{OpaqueKind}
use Rattle.sc_tree.specs.declared.ctype.IntKind.{IntKind}
use Rattle.sc_tree.specs.declared.ctype.Widths.{Widths}
use Rattle.sc_tree.specs.declared.expr.Place.{Place}
use Rattle.sc_typed.specs.declared.expr.TExpr.{TExpr, out-TExpr}
use Rattle.sc_typed.specs.declared.expr.What.TheVariants as what
use Rattle.sc_typed.specs.Kinds.{common}
use Rattle.sc_typed.specs.Types as typed
use Rattle.sc_typed.specs.Constants.{is_lvalue}
use Rattle.sc_rules.specs.declared.walk.Fault.{Fault}
use Rattle.sc_rules.specs.Faults.{ill_typed_at, unsupported_at}
use Rattle.sc_rules.specs.Walks.{Check, ◌>>=◌, done, holds_or}
use Rattle.sc_rules.specs.Conversions.{node, type_of, to, promote, common_of, opaque_kind, opaque_fault, decayed_type, convert_if, decayed, converted}
use Rattle.sc_manners.specs.declared.manners.Manner.{Manner}
use Rattle.sc_manners.specs.declared.manners.Manner.TheVariants as by
use Rattle.sc_assignments.specs.declared.assignments.Working.{Working}
use Rattle.sc_manners.specs.Manners.{manner_of, both_integers, some_pointer}
use Rattle.sc_assignments.specs.Assignments.{stepped, may_step, steps_unless, operand_if, step_operand, incremented, pre_increment, post_increment, assigned_operator, working_in, working_by, is_additive, compound, working_if, working_for, assigned, assign_value, assignment_of, opaque_assigned, assignment_unless, assignment}
use Rattle.sc_world.specs.Tree as tree
use Rattle.sc_world.specs.Tree.{Ty, Int, Exp, Assign, PreInc, PostInc}
use Rattle.sc_world.specs.Source.{Source}
use Rattle.sc_world.specs.View.{type, exp, operator}
use Rattle.sc_world.specs.Eval.{Want, Value, Place'}
use Rattle.run_laws.specs.Fits.{is_scalar, if_scalar, in_one_type, TypesMeet}
use Rattle.fitting_laws.specs.Typed.{IsTyped}
use Rattle.typed_laws.specs.Named.{NamesAgree}
use Rattle.typed_laws.proofs.Types.{integer_seen, type_int}
use Rattle.typed_laws.proofs.Trees.{typed_of, assign_seen, pre_seen, post_seen, pre_value, post_value}
use Rattle.typed_laws.proofs.Steps.{OnSome, Every, Gives, by_then, by_done, by_some, by_none, by_fault, by_if, by_unless, behind}
use Rattle.typed_laws.proofs.Made.{clash, is_object, seen, Made, Fresh, Valued, Brought, read_made, any_made, seen_integer, brought, integer_to}
use Rattle.typed_laws.proofs.Operators.{int_integer, int_scalar, int_seen, in_integer, brought_integer}
use Rattle.typed_laws.proofs.Values.{Given, converted_made, decayed_place}

never : {A : Type 0} → false ≡ true → A
never h = absurd (true≢false (sym h))

-- a test says whether it holds
told : (b : Bool) (f : Fault) → Every (λ n. n ≡ b) (holds_or b f)
told true f = record { all = λ w. refl }
told false f = record { all = λ w. refl }

integer_no_object : (t : CType) → typed.is_integer t ≡ true → is_object t ≡ false
integer_no_object t h = layer (out-CType t) h
  where
    layer : (f : CType-F CType Signature) → typed.is_integer_layer f ≡ true → (typed.is_aggregate_layer f || (typed.is_array_layer f || typed.is_function_layer f)) ≡ false
    layer CType-F.Bool h = refl
    layer (CType-F.Int k) h = refl
    layer _ h = never h

-- only a shift leaves its sides in two types
abbrev Apart : Manner → BinaryOp → Type 0
Apart by.Shifting o = in_one_type o ≡ false
Apart _ o = Unit {0}

apart_by : (o : BinaryOp) → Apart (manner_of o) o
apart_by op.ShiftLeft = refl
apart_by op.ShiftRight = refl
apart_by _ = tt

module _ (s : Source) where
  -- `++` and `--`

  record Stepped (y : TExpr) : Type 0 where
    counts : typed.is_integer (type_of y) ≡ true
    names : is_lvalue y ≡ true

  abbrev IfStepped : TExpr → Bool → Type 0
  IfStepped y b = b ≡ true → Stepped y

  counts_told : (t : CType) (p : Place) → Every (λ c. c ≡ true → typed.is_integer t ≡ true) (stepped t p)
  counts_told t p =
      by_if (λ c. c ≡ true → typed.is_integer t ≡ true) (typed.is_pointer t) _ _ (λ h. record { all = λ w k. never k }) (λ h. side (typed.is_integer t) refl)
    where
      side : (b : Bool) → typed.is_integer t ≡ b → Every (λ c. c ≡ true → typed.is_integer t ≡ true) (holds_or b (ill_typed_at i.Operand p.token))
      side true k = record { all = λ w j. k }
      side false k = record { all = λ w j. never j }

  may_told : (y : TExpr) (p : Place) → Every (IfStepped y) (may_step y p)
  may_told y p =
      by_then (λ c. c ≡ true → typed.is_integer (type_of y) ≡ true) (IfStepped y) (stepped (type_of y) p) _ (counts_told (type_of y) p) (λ c h.
      by_then (λ n. n ≡ is_lvalue y) (IfStepped y) (holds_or (is_lvalue y) (ill_typed_at i.Lvalue p.token)) _ (told (is_lvalue y) (ill_typed_at i.Lvalue p.token)) (λ n k.
      by_done (IfStepped y) (c && n) (λ j. record { counts = h (and_parts c n j).0; names = sym k ∙ (and_parts c n j).1 })))

  steps_told : (k : Option OpaqueKind) (y : TExpr) (p : Place) → Every (IfStepped y) (steps_unless k y p)
  steps_told None y p = may_told y p
  steps_told (Some k) y p = record { all = λ w j. never j }

  record Operand (y : TExpr) : Type 0 where
    stepped : Stepped y
    place : NamesAgree s (seen s y) → IsTyped s Place' (seen s y)

  operand_by : (b : Bool) (a : TExpr) → Made s a → IfStepped (decayed a) b → OnSome Operand (operand_if b (decayed a))
  operand_by true a m h = record { stepped = h refl; place = λ names. decayed_place s (decayed_type (type_of a)) a m names (h refl).names }
  operand_by false a m h = tt

  operand_made : (p : Place) (a : TExpr) → Made s a → Gives Operand (step_operand p a)
  operand_made p a m =
      by_then (IfStepped (decayed a)) (OnSome Operand) (steps_unless (opaque_kind (type_of a)) (decayed a) p) _ (steps_told (opaque_kind (type_of a)) (decayed a) p) (λ b h.
      by_done (OnSome Operand) (operand_if b (decayed a)) (operand_by b a m h))

  operand_integer : (y : TExpr) → Operand y → tree.is_integer (type (type_of y)) ≡ true
  operand_integer y o = integer_seen (type_of y) ∙ o.stepped.counts

  pre_by : (d : Step) (p : Place) (x : Option TExpr) → OnSome Operand x → OnSome (Fresh s) (incremented (what.PreInc d) p x)
  pre_by d p None h = tt
  pre_by d p (Some y) o =
      read_made s (node (what.PreInc d y) (type_of y) p) (PreInc d (seen s y) (type (type_of y))) refl (pre_seen s.structs d y (type_of y) p) (pre_value d y (type_of y) p) (integer_no_object (type_of y) o.stepped.counts)
      (λ names. (o.place names, tt, typed_of s.structs y, operand_integer y o))

  post_by : (d : Step) (p : Place) (x : Option TExpr) → OnSome Operand x → OnSome (Fresh s) (incremented (what.PostInc d) p x)
  post_by d p None h = tt
  post_by d p (Some y) o =
      read_made s (node (what.PostInc d y) (type_of y) p) (PostInc d (seen s y) (type (type_of y))) refl (post_seen s.structs d y (type_of y) p) (post_value d y (type_of y) p) (integer_no_object (type_of y) o.stepped.counts)
      (λ names. (o.place names, tt, typed_of s.structs y, operand_integer y o))

  pub pre_made : (d : Step) (p : Place) (a : TExpr) → Made s a → Gives (Fresh s) (pre_increment d p a)
  pre_made d p a m = by_then (OnSome Operand) (OnSome (Fresh s)) (step_operand p a) _ (operand_made p a m) (λ x h. by_done (OnSome (Fresh s)) _ (pre_by d p x h))

  pub post_made : (d : Step) (p : Place) (a : TExpr) → Made s a → Gives (Fresh s) (post_increment d p a)
  post_made d p a m = by_then (OnSome Operand) (OnSome (Fresh s)) (step_operand p a) _ (operand_made p a m) (λ x h. by_done (OnSome (Fresh s)) _ (post_by d p x h))

  -- Assignment.

  -- what the right side of an assignment is made into, by its operator
  abbrev Works : Option BinaryOp → TExpr → Working → Type 0
  Works None a r = Given s (type_of a) r.right
  Works (Some o) a r =
      (typed.is_integer (type_of a) ≡ true) × (tree.is_integer (type r.ctype) ≡ true) × (NamesAgree s (seen s r.right) → IsTyped s Value (seen s r.right))
      × (tree.is_integer (tree.type_of (seen s r.right)) ≡ true) × TypesMeet o (type r.ctype) (tree.type_of (seen s r.right)) (type r.ctype)

  in_works : (o : BinaryOp) (a : TExpr) (k j : IntKind) (y : TExpr) → typed.is_integer (type_of a) ≡ true → Brought s (ty.Int j) y → (in_one_type o ≡ true → k ≡ j)
      → Works (Some o) a (working_in (ty.Int k) y)
  in_works o a k j y h r same = (
    h,
    int_seen k,
    r.value,
    brought_integer s j y r,
    record { same = λ one integer. ap (λ n. type (ty.Int n)) (same one) ∙ sym r.type; keeps = λ other. refl },
  )

  working_works : (o : BinaryOp) (m : Manner) (w : Widths) (a b : TExpr) → Apart m o → typed.is_integer (type_of a) ≡ true → typed.is_integer (type_of b) ≡ true → Valued s b → Works (Some o) a (working_by m w a b)
  working_works o by.Shifting w a b apart h k v =
      in_works o a (typed.promoted_kind (type_of a)) (typed.promoted_kind (type_of b)) (promote b) h (in_integer s (typed.promoted_kind (type_of b)) b v k)
      (λ one. clash one apart)
  working_works o _ w a b apart h k v =
      in_works o a (common w (typed.promoted_kind (type_of a)) (typed.promoted_kind (type_of b))) (common w (typed.promoted_kind (type_of a)) (typed.promoted_kind (type_of b))) (to (common_of w a b) b) h
      (in_integer s (common w (typed.promoted_kind (type_of a)) (typed.promoted_kind (type_of b))) b v k) (λ one. refl)

  compound_works : (w : Widths) (o : BinaryOp) (p : Place) (a b : TExpr) → Valued s b → Gives (Works (Some o) a) (compound w o p a b)
  compound_works w o p a b v =
      by_if (OnSome (Works (Some o) a)) (is_additive (manner_of o) && some_pointer a b) _ _ (λ h. by_fault (Works (Some o) a) (unsupported_at u.Arith p.token)) (λ h.
      by_unless (Works (Some o) a) (both_integers a b) _ (ill_typed_at i.Operand p.token) (λ k.
      let both = and_parts (typed.is_integer (type_of a)) (typed.is_integer (type_of b)) k in
      by_some (Works (Some o) a) (working_by (manner_of o) w a b) (working_works o (manner_of o) w a b (apart_by o) both.0 both.1 v)))

  for_works : (w : Widths) (o : Option BinaryOp) (p : Place) (a b : TExpr) → Valued s b → Gives (Works o a) (working_for w o p a b)
  for_works w (Some o) p a b v = compound_works w o p a b v
  for_works w None p a b v =
      by_then (OnSome (Given s (type_of a))) (OnSome (Works None a)) (converted w i.Operand p.token (type_of a) b) _ (converted_made s w i.Operand p.token (type_of a) b v) (λ r h. by_done (OnSome (Works None a)) _ (side r h))
    where
      side : (r : Option TExpr) → OnSome (Given s (type_of a)) r → OnSome (Works None a) (working_if r (type_of a))
      side None h = tt
      side (Some y) h = h

  value_works : (w : Widths) (o : AssignOp) (p : Place) (a : TExpr) (b : Option TExpr) → OnSome (Valued s) b → Gives (Works (assigned_operator o) a) (assign_value w o p a b)
  value_works w o p a None v = by_none (Works (assigned_operator o) a)
  value_works w o p a (Some b) v = for_works w (assigned_operator o) p a b v

  -- an assignment whose operator is seen as `+` and its kin, or as none
  any_assigned : (o : Option BinaryOp) (a : TExpr) (r : Working) → Works o a r → (NamesAgree s (seen s a) → IsTyped s Place' (seen s a)) → (want : Want)
      → NamesAgree s (Assign o (type r.ctype) (seen s a) (seen s r.right) (type (type_of a))) → IsTyped s want (Assign o (type r.ctype) (seen s a) (seen s r.right) (type (type_of a)))
  any_assigned None a r h place want names = (place names.0, h.stored names.1, typed_of s.structs a, h.type)
  any_assigned (Some o) a r h place want names =
      (place names.0, h.2 names.1, typed_of s.structs a, integer_seen (type_of a) ∙ h.0, h.1, h.3, h.4)

  same_operator : (o : AssignOp) → assigned_operator o ≡ operator o
  same_operator assign.Set = refl
  same_operator assign.Mul = refl
  same_operator assign.Div = refl
  same_operator assign.Rem = refl
  same_operator assign.Add = refl
  same_operator assign.Sub = refl
  same_operator assign.ShiftLeft = refl
  same_operator assign.ShiftRight = refl
  same_operator assign.BitAnd = refl
  same_operator assign.BitXor = refl
  same_operator assign.BitOr = refl

  assigned_by : (n : Bool) (o : AssignOp) (p : Place) (a : TExpr) (r : Option Working) → (n ≡ true → NamesAgree s (seen s a) → IsTyped s Place' (seen s a)) → OnSome (Works (assigned_operator o) a) r → OnSome (Fresh s) (assigned n o p a r)
  assigned_by n o p a None place h = tt
  assigned_by false o p a (Some r) place h = tt
  assigned_by true o p a (Some r) place h =
      any_made s (node (what.Assign o r.ctype a r.right) (type_of a) p) (Assign (operator o) (type r.ctype) (seen s a) (seen s r.right) (type (type_of a))) refl (assign_seen s.structs o r.ctype a r.right (type_of a) p)
      (λ names want. any_assigned (operator o) a r (subst (λ q. Works q a r) (same_operator o) h) (place refl) want names)

  of_made : (w : Widths) (o : AssignOp) (p : Place) (a : TExpr) (b : Option TExpr) → (is_lvalue a ≡ true → NamesAgree s (seen s a) → IsTyped s Place' (seen s a)) → OnSome (Valued s) b → Gives (Fresh s) (assignment_of w o p a b)
  of_made w o p a b place v =
      by_then (λ n. n ≡ is_lvalue a) (OnSome (Fresh s)) (holds_or (is_lvalue a) (ill_typed_at i.Lvalue p.token)) _ (told (is_lvalue a) (ill_typed_at i.Lvalue p.token)) (λ n k.
      by_then (OnSome (Works (assigned_operator o) a)) (OnSome (Fresh s)) (assign_value w o p a b) _ (value_works w o p a b v) (λ r h.
      by_done (OnSome (Fresh s)) (assigned n o p a r) (assigned_by n o p a r (λ j. place (sym k ∙ j)) h)))

  opaque_made : (k : OpaqueKind) (p : Place) (a : TExpr) → Gives (Fresh s) (opaque_assigned k p a)
  opaque_made k p a = behind (OnSome (Fresh s)) (holds_or (is_lvalue a) (ill_typed_at i.Lvalue p.token)) _ (λ n. by_fault (Fresh s) (unsupported_at (opaque_fault k) p.first))

  unless_assigned : (k : Option OpaqueKind) (w : Widths) (o : AssignOp) (p : Place) (a : TExpr) (b : Option TExpr) → Made s a → OnSome (Valued s) b → Gives (Fresh s) (assignment_unless k w o p a b)
  unless_assigned None w o p a b m v = of_made w o p (decayed a) b (λ l names. decayed_place s (decayed_type (type_of a)) a m names l) v
  unless_assigned (Some k) w o p a b m v = opaque_made k p a

  pub assignment_made : (w : Widths) (o : AssignOp) (p : Place) (a : TExpr) (b : Option TExpr) → Made s a → OnSome (Valued s) b → Gives (Fresh s) (assignment w o p a b)
  assignment_made w o p a b m v = unless_assigned (opaque_kind (type_of a)) w o p a b m v
