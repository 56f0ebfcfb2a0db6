-- The steps of the walk change the fault alone, where those of their parts do.
use Rattle.std.proofs.Common.{Bool, true, false, Option, Some, None, List, [], ◌∷◌, refl}
use Rattle.sc_base.specs.declared.pos.Pos.{Pos}
use Rattle.sc_base.specs.declared.pos.NameId.{NameId}
use Rattle.sc_tree.specs.declared.op.AssignOp.{AssignOp}
use Rattle.sc_tree.specs.declared.op.BinaryOp.{BinaryOp}
use Rattle.sc_tree.specs.declared.op.Step.{Step}
use Rattle.sc_tree.specs.declared.op.UnaryOp.{UnaryOp}
use Rattle.sc_tree.specs.declared.op.UnaryOp.TheVariants as sign
use Rattle.sc_tree.specs.declared.ctype.CType.{CType}
use Rattle.sc_tree.specs.declared.expr.Place.{Place}
use Rattle.sc_typed.specs.declared.expr.TExpr.{TExpr}
use Rattle.sc_rules.specs.declared.walk.Builtin.{Builtin}
use Rattle.sc_parts.specs.Declarators.{array_of}
use Rattle.sc_parts.specs.Operands.{comma_of}
use Rattle.sc_typing.specs.declared.calls.Callee.{Callee}
use Rattle.sc_typing.specs.declared.calls.Callee.TheVariants as callees
use Rattle.sc_typing.specs.Here.{Here}
use Rattle.sc_typing.specs.Shapes.{Typing, Declaring, Heading, Naming}
use Rattle.sc_typing.specs.Typing as spec
use Rattle.plain_bodies.specs.Leaves.{FaultAlone}
use Rattle.plain_bodies.proofs.Steps.{keeps, by_then, by_done, by_given, by_both}
use Rattle.plain_bodies.proofs.Rules.{value_kept, binary_kept, pre_kept, post_kept, conditional_kept, unary_kept, cast_kept, index_kept, field_kept}
use Rattle.plain_bodies.proofs.Calls.{call_kept, callee_kept, builtin_kept}
use Rattle.plain_bodies.proofs.Parts.{length_kept, no_function_kept, bounded_kept, assigned_kept, sizeof_kept, sizeof_type_kept, indexed_kept, accessed_kept}
use Rattle.scopes.specs.Frames.{Frames}
use Rattle.sc_rules.specs.declared.walk.Tag.{Tag}

-- What is asked of the parts.

abbrev pub OfTyping : Frames Tag → Typing → Type 0
OfTyping T e = FaultAlone T e.run

abbrev pub OfDeclaring : Frames Tag → Declaring → Type 0
OfDeclaring T d = (at : Pos) (t : Option CType) → FaultAlone T (d.run at t)

abbrev pub OfHeading : Frames Tag → Heading → Type 0
OfHeading T h = (at : Pos) → FaultAlone T (h.run at)

-- before a declarator
abbrev pub OfNaming : Frames Tag → Naming → Type 0
OfNaming T n = FaultAlone T (n false)

abbrev pub Each : {A : Type 0} → (A → Type 0) → List A → Type 0
Each P [] = Unit {0}
Each P (x ∷ xs) = P x × Each P xs

abbrev pub IfThere : {A : Type 0} → (A → Type 0) → Option A → Type 0
IfThere P None = Unit {0}
IfThere P (Some x) = P x

module _ {T : Frames Tag} where
  -- Expressions.

  pub valued_kept : (e : Typing) → OfTyping T e → FaultAlone T (spec.valued e)
  valued_kept e k = by_then _ _ k (λ x. by_given x _ value_kept)

  callee_value_kept : (e : Typing) → OfTyping T e → FaultAlone T (spec.callee_value e)
  callee_value_kept e k = by_then _ _ k (λ x. by_given x _ callee_kept)

  values_kept : (es : List Typing) → Each (OfTyping T) es → FaultAlone T (spec.values es)
  values_kept [] ks = keeps (λ w. refl)
  values_kept (e ∷ es) ks = by_then _ _ (valued_kept e ks.0) (λ x. by_done _ (λ xs. x ∷ xs) (values_kept es ks.1))

  operand_kept : (o : UnaryOp) (e : Typing) → OfTyping T e → FaultAlone T (spec.operand o e)
  operand_kept sign.Address e k = k
  operand_kept sign.Deref e k = valued_kept e k
  operand_kept sign.Not e k = valued_kept e k
  operand_kept sign.Plus e k = valued_kept e k
  operand_kept sign.Minus e k = valued_kept e k
  operand_kept sign.Complement e k = valued_kept e k

  before_kept : (a : Typing) → OfTyping T a → FaultAlone T (spec.before_bracket a)
  before_kept a k = by_then _ _ k (λ x. by_given x _ indexed_kept)

  pub index_step_kept : (a b : Typing) (p : Place) → OfTyping T a → OfTyping T b → FaultAlone T (spec.index_step a b p)
  index_step_kept a b p k l = by_then _ _ (before_kept a k) (λ y. by_then _ _ (valued_kept b l) (λ z. by_both y z _ (index_kept p)))

  pub field_step_kept : (a : Typing) (name : NameId) (arrow : Bool) (p : Place) → OfTyping T a → FaultAlone T (spec.field_step a name arrow p)
  field_step_kept a name arrow p k = by_then _ _ k (λ x. by_then _ _ (by_given x _ (accessed_kept arrow)) (λ y. by_given y _ (field_kept name arrow p)))

  comma_of_kept : (p : Place) (x y : TExpr) → FaultAlone T (comma_of p x y)
  comma_of_kept p x y = keeps (λ w. refl)

  pub comma_kept : (a b : Typing) (p : Place) → OfTyping T a → OfTyping T b → FaultAlone T (spec.comma_step a b p)
  comma_kept a b p k l = by_then _ _ (valued_kept a k) (λ x. by_then _ _ (valued_kept b l) (λ y. by_both x y _ (comma_of_kept p)))

  pub unary_step_kept : (o : UnaryOp) (a : Typing) (p : Place) → OfTyping T a → FaultAlone T (spec.unary_step o a p)
  unary_step_kept o a p k = by_then _ _ (operand_kept o a k) (λ x. by_given x _ (unary_kept o p))

  pub pre_step_kept : (s : Step) (a : Typing) (p : Place) → OfTyping T a → FaultAlone T (spec.pre_step s a p)
  pre_step_kept s a p k = by_then _ _ k (λ x. by_given x _ (pre_kept s p))

  pub post_step_kept : (s : Step) (a : Typing) (p : Place) → OfTyping T a → FaultAlone T (spec.post_step s a p)
  post_step_kept s a p k = by_then _ _ k (λ x. by_given x _ (post_kept s p))

  type_named_kept : (h : Heading) → OfHeading T h → FaultAlone T (spec.type_named h)
  type_named_kept h k = by_done (h.run h.first) (λ s. s.ctype) (k h.first)

  pub shape_kept : (at : Pos) (t : Option CType) → FaultAlone T (spec.bounded_shape at t)
  shape_kept at t = by_done _ (λ u. record { ctype = u; own = None }) (by_given t _ (bounded_kept at))

  module _ (here : Here) where
    -- Calls.

    if_declared_kept : (declared : Bool) (name : NameId) (p : Place) (e : Typing) → OfTyping T e → FaultAlone T (spec.callee_if here declared name p e)
    if_declared_kept false name p e k = keeps (λ w. refl)
    if_declared_kept true name p e k = callee_value_kept e k

    named_callee_kept : (name : NameId) (p : Place) (e : Typing) → OfTyping T e → FaultAlone T (spec.named_callee here name p e)
    named_callee_kept name p e k = by_then _ _ (keeps (λ w. refl)) (λ b. if_declared_kept b name p e k)

    by_builtin_kept : (b : Option Builtin) (name : NameId) (p : Place) (e : Typing) → OfTyping T e → FaultAlone T (spec.callee_by here b name p e)
    by_builtin_kept None name p e k = by_done _ (λ x. callees.Value x) (named_callee_kept name p e k)
    by_builtin_kept (Some b) name p e k = keeps (λ w. refl)

    callee_as_kept : (n : Option (NameId × Place)) (e : Typing) → OfTyping T e → FaultAlone T (spec.callee_as here n e)
    callee_as_kept None e k = by_done _ (λ x. callees.Value x) (callee_value_kept e k)
    callee_as_kept (Some (name, p)) e k = by_builtin_kept (here.builtin name.at) name p e k

    finish_kept : (p : Place) (c : Callee) (xs : List (Option TExpr)) → FaultAlone T (spec.finish_call here p c xs)
    finish_kept p (callees.Value f) xs = call_kept here.widths p f xs
    finish_kept p (callees.Builtin b) xs = by_then _ _ (keeps (λ w. refl)) (λ s. builtin_kept here.widths b.name b.meaning s b.place p xs)

    pub called_kept : (p : Place) (f : Typing) (es : List Typing) → OfTyping T f → Each (OfTyping T) es → FaultAlone T (spec.called here p f es)
    called_kept p f es k ks = by_then _ _ (callee_as_kept f.name f k) (λ c. by_then _ _ (values_kept es ks) (λ xs. finish_kept p c xs))

    -- Types.

    written_kept : (at : Pos) (n : Option Typing) → IfThere (OfTyping T) n → FaultAlone T (spec.written_length here at n)
    written_kept at None k = keeps (λ w. refl)
    written_kept at (Some e) k = by_then _ _ (valued_kept e k) (λ x. by_given x _ (length_kept here.widths at))

    pub array_kept : (d : Declaring) (n : Option Typing) → OfDeclaring T d → IfThere (OfTyping T) n → (at : Pos) (t : Option CType) → FaultAlone T (spec.array_declarator here d n at t)
    array_kept d n k l at t = by_then _ _ (written_kept at n l) (λ m. by_then _ _ (by_given t _ (no_function_kept at)) (λ e. k at (array_of e m)))

    pub head_kept : (s : Naming) (d : Declaring) → OfNaming T s → OfDeclaring T d → (at : Pos) → FaultAlone T (spec.head_run here s d at)
    head_kept s d k l at = by_then _ _ k (λ t. l at t)

    -- Expressions with widths.

    pub assign_kept : (o : AssignOp) (a b : Typing) (p : Place) → OfTyping T a → OfTyping T b → FaultAlone T (spec.assign_step here o a b p)
    assign_kept o a b p k l = by_then _ _ k (λ x. by_then _ _ (valued_kept b l) (λ y. by_given x _ (assigned_kept here.widths o p y)))

    pub choose_kept : (a b c : Typing) (p : Place) → OfTyping T a → OfTyping T b → OfTyping T c → FaultAlone T (spec.conditional_step here a b c p)
    choose_kept a b c p k l m =
        by_then _ _ (valued_kept a k) (λ x. by_then _ _ (valued_kept b l) (λ y. by_then _ _ (valued_kept c m) (λ z. conditional_kept here.widths p x y z)))

    pub operate_kept : (o : BinaryOp) (a b : Typing) (p : Place) → OfTyping T a → OfTyping T b → FaultAlone T (spec.binary_step here o a b p)
    operate_kept o a b p k l = by_then _ _ (valued_kept a k) (λ x. by_then _ _ (valued_kept b l) (λ y. by_both x y _ (binary_kept here.widths o p)))

    pub cast_step_kept : (h : Heading) (a : Typing) (p : Place) → OfHeading T h → OfTyping T a → FaultAlone T (spec.cast_step here h a p)
    cast_step_kept h a p k l = by_then _ _ (type_named_kept h k) (λ t. by_then _ _ (valued_kept a l) (λ x. by_both t x _ (cast_kept here.widths p)))

    pub sizeof_step_kept : (a : Typing) (p : Place) → OfTyping T a → FaultAlone T (spec.sizeof_step here a p)
    sizeof_step_kept a p k = by_then _ _ k (λ x. by_given x _ (sizeof_kept here.widths p))

    pub sizeof_type_step_kept : (h : Heading) (p : Place) → OfHeading T h → FaultAlone T (spec.sizeof_type_step here h p)
    sizeof_type_step_kept h p k = by_then _ _ (type_named_kept h k) (λ t. by_given t _ (sizeof_type_kept here.widths p))
