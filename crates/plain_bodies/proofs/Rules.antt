-- The rules on operands that have their types (C11 6.5) change the fault of the walk alone.
use Rattle.std.proofs.Common.{◌≡◌, ℕ, Bool, true, false, ◌&&◌, ◌||◌, Option, Some, None, if◌then◌else◌, refl}
use Rattle.sc_base.specs.declared.pos.Pos.{Pos}
use Rattle.sc_base.specs.declared.pos.NameId.{NameId}
use Rattle.sc_base.specs.declared.skip.IllTyped.{IllTyped}
use Rattle.sc_tree.specs.declared.token.IntToken.{IntToken}
use Rattle.sc_tree.specs.declared.op.AssignOp.{AssignOp}
use Rattle.sc_tree.specs.declared.op.BinaryOp.{BinaryOp}
use Rattle.sc_tree.specs.declared.op.Step.{Step}
use Rattle.sc_tree.specs.declared.op.UnaryOp.{UnaryOp}
use Rattle.sc_tree.specs.declared.op.UnaryOp.TheVariants as sign
use Rattle.sc_tree.specs.declared.ctype.CType.{CType}
use Rattle.sc_tree.specs.declared.ctype.IntKind.{IntKind}
use Rattle.sc_tree.specs.declared.ctype.OpaqueKind.{OpaqueKind}
use Rattle.sc_tree.specs.declared.ctype.Widths.{Widths}
use Rattle.sc_tree.specs.declared.expr.Place.{Place}
use Rattle.sc_typed.specs.declared.expr.TExpr.{TExpr}
use Rattle.sc_typed.specs.declared.expr.What.TheVariants as what
use Rattle.sc_base.specs.declared.skip.IllTyped.TheVariants as i
use Rattle.sc_typed.specs.Types.{is_aggregate, is_integer, is_pointer, is_scalar, is_function}
use Rattle.sc_typed.specs.Constants.{is_lvalue}
use Rattle.sc_rules.specs.Faults.{ill_typed_at}
use Rattle.sc_rules.specs.declared.walk.Walk.{Walk}
use Rattle.sc_rules.specs.Walks.{holds_or, unsupported}
use Rattle.sc_rules.specs.Conversions.{type_of, decayed, opaque_kind, opaque_fault, value_unless, value, converts, converted_or, converted_unless, converted}
use Rattle.sc_manners.specs.declared.manners.Manner.{Manner}
use Rattle.sc_manners.specs.declared.manners.Manner.TheVariants as by
use Rattle.sc_manners.specs.Manners.{manner_of, both_integers, some_pointer}
use Rattle.sc_operators.specs.Binary.{is_comparable, on_common, compared, pointer_equality, binary_by, binary}
use Rattle.sc_assignments.specs.Assignments.{working_if, stepped, is_additive, may_step, steps_unless, operand_if, step_operand, incremented, pre_increment, post_increment, assigned_operator, compound, working_for, assigned, assign_value, assignment_of, opaque_assigned, assignment_unless, assignment}
use Rattle.sc_operators.specs.Conditionals.{arms_type, conditional_to, no_aggregate, conditional_of, conditional}
use Rattle.sc_unary.specs.declared.members.Meant.{Meant}
use Rattle.sc_unary.specs.declared.members.Meant.TheVariants as means
use Rattle.sc_unary.specs.Members.{find_member, access, accessed, field}
use Rattle.sc_unary.specs.Operators.{int_of_kind, token_value, int_of_value, int_constant, deref_to, promoting, signing, unary, may_cast, cast, size_of_expression, size_of_type, element, index_to, index}
use Rattle.plain_bodies.specs.Leaves.{FaultAlone, faultless}
use Rattle.plain_bodies.proofs.Steps.{keeps, keeps_where, by_then, by_done, by_if, by_test}
use Rattle.scopes.specs.Frames.{Frames}
use Rattle.sc_rules.specs.declared.walk.Tag.{Tag}

field_at : (b : Bool) (r s : Option TExpr × Walk) (w : Walk) → faultless r.1 ≡ faultless w → faultless s.1 ≡ faultless w → faultless (if b then r else s).1 ≡ faultless w
field_at true r s w first second = first
field_at false r s w first second = second

module _ {T : Frames Tag} where
  -- Values and conversions.

  value_by : (k : Option OpaqueKind) (e : TExpr) → FaultAlone T (value_unless k e)
  value_by None e = keeps (λ w. refl)
  value_by (Some k) e = keeps (λ w. refl)

  pub value_kept : (e : TExpr) → FaultAlone T (value e)
  value_kept e = value_by (opaque_kind (type_of e)) (decayed e)

  converted_by : (allowed : Bool) (kind : IllTyped) (at : Pos) (t : CType) (e : TExpr) → FaultAlone T (converted_or allowed kind at t e)
  converted_by true kind at t e = keeps (λ w. refl)
  converted_by false kind at t e = keeps (λ w. refl)

  unless_kept : (k : Option OpaqueKind) (ws : Widths) (kind : IllTyped) (at : Pos) (t : CType) (e : TExpr) → FaultAlone T (converted_unless k ws kind at t e)
  unless_kept None ws kind at t e = converted_by (converts ws e t) kind at t e
  unless_kept (Some k) ws kind at t e = by_if (is_integer (type_of e)) _ _ (keeps (λ w. refl)) (keeps (λ w. refl))

  pub converted_kept : (ws : Widths) (kind : IllTyped) (at : Pos) (t : CType) (e : TExpr) → FaultAlone T (converted ws kind at t e)
  converted_kept ws kind at t e = unless_kept (opaque_kind t) ws kind at t e

  -- Operators between two operands.

  common_kept : (ws : Widths) (o : BinaryOp) (p : Place) (a b : TExpr) → FaultAlone T (on_common ws o p a b)
  common_kept ws o p a b = by_if (both_integers a b) _ _ (keeps (λ w. refl)) (keeps (λ w. refl))

  compared_kept : (ws : Widths) (o : BinaryOp) (p : Place) (a b : TExpr) → FaultAlone T (compared ws o p a b)
  compared_kept ws o p a b = by_if (both_integers a b) _ _ (keeps (λ w. refl)) (keeps (λ w. refl))

  pointers_kept : (ws : Widths) (o : BinaryOp) (p : Place) (a b : TExpr) → FaultAlone T (pointer_equality ws o p a b)
  pointers_kept ws o p a b = by_if (is_comparable ws a && is_comparable ws b) _ _ (keeps (λ w. refl)) (keeps (λ w. refl))

  binary_kept_by : (m : Manner) (ws : Widths) (o : BinaryOp) (p : Place) (a b : TExpr) → FaultAlone T (binary_by m ws o p a b)
  binary_kept_by by.Logical ws o p a b = by_if (is_scalar (type_of a) && is_scalar (type_of b)) _ _ (keeps (λ w. refl)) (keeps (λ w. refl))
  binary_kept_by by.Equality ws o p a b = by_if (some_pointer a b) _ _ (pointers_kept ws o p a b) (compared_kept ws o p a b)
  binary_kept_by by.Ordering ws o p a b = by_if (some_pointer a b) _ _ (keeps (λ w. refl)) (compared_kept ws o p a b)
  binary_kept_by by.Shifting ws o p a b = by_if (both_integers a b) _ _ (keeps (λ w. refl)) (keeps (λ w. refl))
  binary_kept_by by.Additive ws o p a b = by_if (some_pointer a b) _ _ (keeps (λ w. refl)) (common_kept ws o p a b)
  binary_kept_by by.Arithmetic ws o p a b = common_kept ws o p a b

  pub binary_kept : (ws : Widths) (o : BinaryOp) (p : Place) (a b : TExpr) → FaultAlone T (binary ws o p a b)
  binary_kept ws o p a b = binary_kept_by (manner_of o) ws o p a b

  -- `++` and `--`.

  stepped_kept : (t : CType) (p : Place) → FaultAlone T (stepped t p)
  stepped_kept t p = by_if (is_pointer t) _ _ (keeps (λ w. refl)) (by_test (is_integer t) _)

  may_kept : (a : TExpr) (p : Place) → FaultAlone T (may_step a p)
  may_kept a p = by_then (stepped (type_of a) p) _ (stepped_kept (type_of a) p) (λ c. by_done (holds_or (is_lvalue a) (ill_typed_at i.Lvalue p.token)) (λ n. c && n) (by_test (is_lvalue a) (ill_typed_at i.Lvalue p.token)))

  steps_kept : (k : Option OpaqueKind) (a : TExpr) (p : Place) → FaultAlone T (steps_unless k a p)
  steps_kept None a p = may_kept a p
  steps_kept (Some k) a p = keeps (λ w. refl)

  operand_kept : (p : Place) (a : TExpr) → FaultAlone T (step_operand p a)
  operand_kept p a = by_done _ (λ allowed. operand_if allowed (decayed a)) (steps_kept (opaque_kind (type_of a)) (decayed a) p)

  pub pre_kept : (s : Step) (p : Place) (a : TExpr) → FaultAlone T (pre_increment s p a)
  pre_kept s p a = by_done _ (λ x. incremented (what.PreInc s) p x) (operand_kept p a)

  pub post_kept : (s : Step) (p : Place) (a : TExpr) → FaultAlone T (post_increment s p a)
  post_kept s p a = by_done _ (λ x. incremented (what.PostInc s) p x) (operand_kept p a)

  -- Assignment.

  compound_kept : (ws : Widths) (o : BinaryOp) (p : Place) (a b : TExpr) → FaultAlone T (compound ws o p a b)
  compound_kept ws o p a b = by_if (is_additive (manner_of o) && some_pointer a b) _ _ (keeps (λ w. refl)) (by_if (both_integers a b) _ _ (keeps (λ w. refl)) (keeps (λ w. refl)))

  working_kept : (ws : Widths) (o : Option BinaryOp) (p : Place) (a b : TExpr) → FaultAlone T (working_for ws o p a b)
  working_kept ws None p a b = by_done (converted ws i.Operand p.token (type_of a) b) (λ r. working_if r (type_of a)) (converted_kept ws i.Operand p.token (type_of a) b)
  working_kept ws (Some o) p a b = compound_kept ws o p a b

  right_kept : (ws : Widths) (o : AssignOp) (p : Place) (a : TExpr) (b : Option TExpr) → FaultAlone T (assign_value ws o p a b)
  right_kept ws o p a None = keeps (λ w. refl)
  right_kept ws o p a (Some b) = working_kept ws (assigned_operator o) p a b

  of_kept : (ws : Widths) (o : AssignOp) (p : Place) (a : TExpr) (b : Option TExpr) → FaultAlone T (assignment_of ws o p a b)
  of_kept ws o p a b = by_then (holds_or (is_lvalue a) (ill_typed_at i.Lvalue p.token)) _ (by_test (is_lvalue a) _) (λ names. by_done _ (λ r. assigned names o p a r) (right_kept ws o p a b))

  opaque_kept : (k : OpaqueKind) (p : Place) (a : TExpr) → FaultAlone T (opaque_assigned k p a)
  opaque_kept k p a = by_then (holds_or (is_lvalue a) (ill_typed_at i.Lvalue p.token)) (λ _. unsupported (opaque_fault k) p.first) (by_test (is_lvalue a) _) (λ b. keeps (λ w. refl))

  assignment_by : (k : Option OpaqueKind) (ws : Widths) (o : AssignOp) (p : Place) (a : TExpr) (b : Option TExpr) → FaultAlone T (assignment_unless k ws o p a b)
  assignment_by None ws o p a b = of_kept ws o p (decayed a) b
  assignment_by (Some k) ws o p a b = opaque_kept k p a

  pub assignment_kept : (ws : Widths) (o : AssignOp) (p : Place) (a : TExpr) (b : Option TExpr) → FaultAlone T (assignment ws o p a b)
  assignment_kept ws o p a b = assignment_by (opaque_kind (type_of a)) ws o p a b

  -- `? :`

  to_kept : (t : Option CType) (p : Place) (a b c : TExpr) → FaultAlone T (conditional_to t p a b c)
  to_kept None p a b c = keeps (λ w. refl)
  to_kept (Some t) p a b c = by_if (is_scalar (type_of a)) _ _ (keeps (λ w. refl)) (keeps (λ w. refl))

  aggregate_kept : (a : Option TExpr) → FaultAlone T (no_aggregate a)
  aggregate_kept None = keeps (λ w. refl)
  aggregate_kept (Some e) = by_if (is_aggregate (type_of e)) _ _ (keeps (λ w. refl)) (keeps (λ w. refl))

  arms_kept : (ws : Widths) (p : Place) (a b c : Option TExpr) → FaultAlone T (conditional_of ws p a b c)
  arms_kept ws p None b c = keeps (λ w. refl)
  arms_kept ws p (Some a) None c = keeps (λ w. refl)
  arms_kept ws p (Some a) (Some b) None = keeps (λ w. refl)
  arms_kept ws p (Some a) (Some b) (Some c) = to_kept (arms_type ws b c) p a b c

  pub conditional_kept : (ws : Widths) (p : Place) (a b c : Option TExpr) → FaultAlone T (conditional ws p a b c)
  conditional_kept ws p a b c =
      by_then _ _ (aggregate_kept a) (λ x. by_then _ _ (aggregate_kept b) (λ y. by_then _ _ (aggregate_kept c) (λ z. arms_kept ws p x y z)))

  -- Constants and operators before their operand.

  kind_kept : (k : Option IntKind) (n : ℕ) (p : Place) → FaultAlone T (int_of_kind k n p)
  kind_kept None n p = keeps (λ w. refl)
  kind_kept (Some k) n p = keeps (λ w. refl)

  constant_by : (ws : Widths) (t : IntToken) (n : Option ℕ) (p : Place) → FaultAlone T (int_of_value ws t n p)
  constant_by ws t None p = keeps (λ w. refl)
  constant_by ws t (Some n) p = kind_kept _ n p

  pub constant_kept : (ws : Widths) (t : IntToken) (p : Place) → FaultAlone T (int_constant ws t p)
  constant_kept ws t p = constant_by ws t (token_value t) p

  deref_by : (t : Option CType) (p : Place) (a : TExpr) → FaultAlone T (deref_to t p a)
  deref_by None p a = keeps (λ w. refl)
  deref_by (Some t) p a = keeps (λ w. refl)

  promoting_kept : (o : UnaryOp) (p : Place) (a : TExpr) → FaultAlone T (promoting o p a)
  promoting_kept o p a = by_if (is_integer (type_of a)) _ _ (keeps (λ w. refl)) (keeps (λ w. refl))

  signing_kept : (o : UnaryOp) (p : Place) (a : TExpr) → FaultAlone T (signing o p a)
  signing_kept o p a = by_if (is_pointer (type_of a)) _ _ (keeps (λ w. refl)) (promoting_kept o p a)

  pub unary_kept : (o : UnaryOp) (p : Place) (a : TExpr) → FaultAlone T (unary o p a)
  unary_kept sign.Address p a = by_if (is_lvalue a || is_function (type_of a)) _ _ (keeps (λ w. refl)) (keeps (λ w. refl))
  unary_kept sign.Deref p a = deref_by _ p a
  unary_kept sign.Not p a = by_if (is_scalar (type_of a)) _ _ (keeps (λ w. refl)) (keeps (λ w. refl))
  unary_kept sign.Plus p a = signing_kept sign.Plus p a
  unary_kept sign.Minus p a = signing_kept sign.Minus p a
  unary_kept sign.Complement p a = promoting_kept sign.Complement p a

  pub cast_kept : (ws : Widths) (p : Place) (t : CType) (e : TExpr) → FaultAlone T (cast ws p t e)
  cast_kept ws p t e = by_if (may_cast ws t e) _ _ (keeps (λ w. refl)) (by_if (is_pointer (type_of e) || is_pointer t) _ _ (keeps (λ w. refl)) (keeps (λ w. refl)))

  pub size_kept : (ws : Widths) (n : Option ℕ) (p : Place) (e : TExpr) → FaultAlone T (size_of_expression ws n p e)
  size_kept ws None p e = keeps (λ w. refl)
  size_kept ws (Some n) p e = keeps (λ w. refl)

  pub type_size_kept : (ws : Widths) (n : Option ℕ) (p : Place) → FaultAlone T (size_of_type ws n p)
  type_size_kept ws None p = keeps (λ w. refl)
  type_size_kept ws (Some n) p = keeps (λ w. refl)

  index_by : (t : Option CType) (p : Place) (a k : TExpr) → FaultAlone T (index_to t p a k)
  index_by None p a k = keeps (λ w. refl)
  index_by (Some t) p a k = by_if (is_integer (type_of k)) _ _ (keeps (λ w. refl)) (keeps (λ w. refl))

  pub index_kept : (p : Place) (a k : TExpr) → FaultAlone T (index p a k)
  index_kept p a k = index_by (element (type_of a)) p a k

  -- Members.

  access_kept : (m : Meant) (arrow : Bool) (t : CType) (p : Place) (e : TExpr) → FaultAlone T (access m arrow t p e)
  access_kept means.Missing arrow t p e = keeps (λ w. refl)
  access_kept means.OfUnion arrow t p e = keeps (λ w. refl)
  access_kept means.Bits arrow t p e = keeps (λ w. refl)
  access_kept means.Unnamed arrow t p e = keeps (λ w. refl)
  access_kept (means.Plain k) arrow t p e = keeps (λ w. refl)

  pub field_kept : (name : NameId) (arrow : Bool) (p : Place) (e : TExpr) → FaultAlone T (field name arrow p e)
  field_kept name arrow p e =
      let t = accessed arrow (type_of e) in
      keeps_where (λ w has. field_at (is_aggregate t) (access (find_member w.structs name t) arrow t p e w) _ w ((access_kept (find_member w.structs name t) arrow t p e).kept w has) refl)
