-- The rules on names and declarators change the fault of the walk alone.
use Rattle.std.proofs.Common.{ℕ, ℤ, Bool, true, false, not, Option, Some, None, is_some, List, refl}
use Rattle.sc_base.specs.declared.pos.Pos.{Pos}
use Rattle.sc_base.specs.declared.pos.NameId.{NameId}
use Rattle.sc_tree.specs.declared.op.AssignOp.{AssignOp}
use Rattle.sc_tree.specs.declared.token.StrToken.{StrToken}
use Rattle.sc_tree.specs.declared.ctype.CType.{CType}
use Rattle.sc_tree.specs.declared.ctype.Widths.{Widths}
use Rattle.sc_tree.specs.declared.expr.Place.{Place}
use Rattle.sc_typed.specs.declared.expr.TExpr.{TExpr}
use Rattle.sc_typed.specs.Types.{is_function, is_array, is_aggregate}
use Rattle.sc_typed.specs.Constants.{constant}
use Rattle.sc_rules.specs.declared.walk.Entity.{Entity}
use Rattle.sc_rules.specs.declared.walk.Entity.TheVariants as entity
use Rattle.sc_base.specs.declared.skip.IllTyped.TheVariants as i
use Rattle.sc_typed.specs.Extents.{size}
use Rattle.scopes.specs.Frames.{here as declared_here}
use Rattle.sc_rules.specs.Faults.{ill_typed_at}
use Rattle.sc_rules.specs.Conversions.{type_of}
use Rattle.sc_names.specs.Names.{new_here}
use Rattle.sc_names.specs.Structs.{is_object, object_at}
use Rattle.sc_parts.specs.Bounds.{is_bounded, bounded}
use Rattle.sc_parts.specs.Declarators.{in_range, ranged, length_number, length_of, no_function}
use Rattle.sc_parts.specs.Names.{is_wide, string, named, a_name, typedef_of, a_typedef}
use Rattle.sc_parts.specs.Operands.{assigned, sizeof_value, sizeof_type, indexed, accessed}
use Rattle.plain_bodies.specs.Leaves.{FaultAlone}
use Rattle.plain_bodies.proofs.Steps.{keeps, keeps_where, by_then, by_if, by_test}
use Rattle.plain_bodies.proofs.Rules.{value_kept, assignment_kept, size_kept, type_size_kept}
use Rattle.scopes.specs.Frames.{Frames}
use Rattle.sc_rules.specs.declared.walk.Tag.{Tag}

module _ {T : Frames Tag} where
  -- Declarators.

  ranged_kept : (n : Option ℕ) (at : Pos) → FaultAlone T (ranged n at)
  ranged_kept None at = keeps (λ w. refl)
  ranged_kept (Some n) at = keeps (λ w. refl)

  length_by : (z : Option ℤ) (at : Pos) (e : TExpr) → FaultAlone T (length_number z at e)
  length_by None at e = keeps (λ w. refl)
  length_by (Some z) at e = ranged_kept (in_range z) _

  pub length_kept : (ws : Widths) (at : Pos) (e : TExpr) → FaultAlone T (length_of ws at e)
  length_kept ws at e = length_by (constant ws e) at e

  pub no_function_kept : (at : Pos) (t : CType) → FaultAlone T (no_function at t)
  no_function_kept at t = by_if (is_function t) _ _ (keeps (λ w. refl)) (keeps (λ w. refl))

  pub bounded_kept : (at : Pos) (t : CType) → FaultAlone T (bounded at t)
  bounded_kept at t = by_if (is_bounded t) _ _ (keeps (λ w. refl)) (keeps (λ w. refl))

  -- Names, strings and operands.

  pub string_kept : (ss : List StrToken) (p : Place) → FaultAlone T (string ss p)
  string_kept ss p = by_if (is_wide ss) _ _ (keeps (λ w. refl)) (keeps (λ w. refl))

  named_kept : (settled : Bool) (body : Option ℕ) (name : NameId) (p : Place) (e : Option Entity) → FaultAlone T (named settled body name p e)
  named_kept settled body name p None = keeps (λ w. refl)
  named_kept settled body name p (Some (entity.Typedef t)) = keeps (λ w. refl)
  named_kept settled body name p (Some (entity.Function t brackets)) = keeps (λ w. refl)
  named_kept settled body name p (Some (entity.Constant n)) = keeps (λ w. refl)
  named_kept settled body name p (Some (entity.Global n t)) = keeps (λ w. refl)
  named_kept settled body name p (Some (entity.Param n t)) = keeps (λ w. refl)
  named_kept settled body name p (Some (entity.Local n t)) = keeps (λ w. refl)

  pub name_kept : (settled : Bool) (body : Option ℕ) (name : NameId) (p : Place) → FaultAlone T (a_name settled body name p)
  name_kept settled body name p = by_then _ _ (keeps (λ w. refl)) (λ e. named_kept settled body name p e)

  typedef_by : (at : Pos) (e : Option Entity) → FaultAlone T (typedef_of at e)
  typedef_by at None = keeps (λ w. refl)
  typedef_by at (Some (entity.Typedef t)) = keeps (λ w. refl)
  typedef_by at (Some (entity.Function t brackets)) = keeps (λ w. refl)
  typedef_by at (Some (entity.Constant n)) = keeps (λ w. refl)
  typedef_by at (Some (entity.Global n t)) = keeps (λ w. refl)
  typedef_by at (Some (entity.Param n t)) = keeps (λ w. refl)
  typedef_by at (Some (entity.Local n t)) = keeps (λ w. refl)

  pub typedef_kept : (name : NameId) (at : Pos) → FaultAlone T (a_typedef name at)
  typedef_kept name at = by_then _ _ (keeps (λ w. refl)) (λ e. typedef_by at e)

  pub assigned_kept : (ws : Widths) (o : AssignOp) (p : Place) (y : Option TExpr) (x : TExpr) → FaultAlone T (assigned ws o p y x)
  assigned_kept ws o p y x = assignment_kept ws o p x y

  pub sizeof_kept : (ws : Widths) (p : Place) (e : TExpr) → FaultAlone T (sizeof_value ws p e)
  sizeof_kept ws p e = by_then _ _ (keeps (λ w. refl)) (λ n. size_kept ws n p e)

  pub sizeof_type_kept : (ws : Widths) (p : Place) (t : CType) → FaultAlone T (sizeof_type ws p t)
  sizeof_type_kept ws p t = by_then _ _ (keeps (λ w. refl)) (λ n. type_size_kept ws n p)

  pub indexed_kept : (e : TExpr) → FaultAlone T (indexed e)
  indexed_kept e = by_if (is_array (type_of e)) _ _ (keeps (λ w. refl)) (value_kept e)

  pub accessed_kept : (arrow : Bool) (e : TExpr) → FaultAlone T (accessed arrow e)
  accessed_kept true e = value_kept e
  accessed_kept false e = by_if (is_aggregate (type_of e)) _ _ (keeps (λ w. refl)) (value_kept e)

  -- Names that are new, and objects.

  pub new_kept : (name : NameId) (at : Pos) → FaultAlone T (new_here name at)
  new_kept name at = keeps_where (λ w has. (by_test (not (is_some (declared_here name.at w.names))) (ill_typed_at i.Again at)).kept w has)

  pub object_kept : (ws : Widths) (at : Pos) (t : CType) → FaultAlone T (object_at ws at t)
  object_kept ws at t = keeps_where (λ w has. (by_test (is_object t (size ws w.structs t)) (ill_typed_at i.Incomplete at)).kept w has)
