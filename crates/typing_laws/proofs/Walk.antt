-- The steps of the walk leave the globals as they are, where those of their parts do.
use Rattle.std.proofs.Common.{ℕ, ◌+◌, Bool, true, false, not, Option, Some, None, List, [], ◌∷◌, refl}
use Rattle.sc_base.specs.declared.pos.Pos.{Pos}
use Rattle.sc_base.specs.declared.pos.NameId.{NameId}
use Rattle.sc_tree.specs.declared.op.AssignOp.{AssignOp}
use Rattle.sc_tree.specs.declared.op.BinaryOp.{BinaryOp}
use Rattle.sc_tree.specs.declared.op.Step.{Step}
use Rattle.sc_tree.specs.declared.op.UnaryOp.{UnaryOp}
use Rattle.sc_tree.specs.declared.op.UnaryOp.TheVariants as sign
use Rattle.sc_tree.specs.declared.ctype.CType.{CType}
use Rattle.sc_tree.specs.declared.expr.Place.{Place}
use Rattle.sc_typed.specs.declared.expr.TExpr.{TExpr}
use Rattle.sc_typed.specs.declared.program.FieldDef.{FieldDef}
use Rattle.sc_rules.specs.declared.walk.Builtin.{Builtin}
use Rattle.sc_rules.specs.declared.walk.Tag.{Tag}
use Rattle.sc_rules.specs.Walks.{Check, ◌>>=◌, done, no_scope, open_scope, close_scope}
use Rattle.sc_operators.specs.Binary.{int}
use Rattle.sc_unary.specs.Members.{is_there}
use Rattle.sc_parts.specs.Declarators.{array_of, adjusted}
use Rattle.sc_parts.specs.Fields.{aggregate_kind, aggregate_type, only_if, with_field}
use Rattle.sc_parts.specs.Operands.{comma_of}
use Rattle.sc_declare.specs.declared.functions.Parameter.{Parameter}
use Rattle.sc_rules.specs.declared.walk.TagKind.TheVariants as tag
use Rattle.sc_typing.specs.declared.calls.Callee.{Callee}
use Rattle.sc_typing.specs.declared.calls.Callee.TheVariants as callees
use Rattle.sc_typing.specs.declared.shapes.Own.{Own}
use Rattle.sc_typing.specs.declared.shapes.NewMember.{NewMember}
use Rattle.sc_typing.specs.Here.{Here}
use Rattle.sc_typing.specs.Shapes.{Typing, Declaring, Heading, Naming, Adding, AddingOne, Counting}
use Rattle.sc_typing.specs.Typing as spec
use Rattle.typing_laws.specs.Kept.{KeepsGlobals}
use Rattle.typing_laws.proofs.Steps.{keeps, by_then, by_done, by_given, by_both}
use Rattle.typing_laws.proofs.Rules.{value_kept, binary_kept, pre_kept, post_kept, conditional_kept, unary_kept, cast_kept, index_kept, field_kept}
use Rattle.typing_laws.proofs.Calls.{call_kept, callee_kept, builtin_kept}
use Rattle.typing_laws.proofs.Parts.{tag_kept, begin_kept, complete_kept, length_kept, no_function_kept, no_array_kept, bounded_kept, parameter_kept, width_kept, member_kept, new_member_kept, number_value_kept, enumerator_kept, assigned_kept, sizeof_kept, sizeof_type_kept, indexed_kept, accessed_kept}

-- What is asked of the parts.

abbrev pub OfTyping : Typing → Type 0
OfTyping e = KeepsGlobals e.run

abbrev pub OfDeclaring : Declaring → Type 0
OfDeclaring d = (at : Pos) (t : Option CType) → KeepsGlobals (d.run at t)

abbrev pub OfHeading : Heading → Type 0
OfHeading h = (at : Pos) → KeepsGlobals (h.run at)

abbrev pub OfNaming : Naming → Type 0
OfNaming n = (alone : Bool) → KeepsGlobals (n alone)

abbrev pub OfAdding : Adding → Type 0
OfAdding m = (fs : Option (List FieldDef)) → KeepsGlobals (m fs)

abbrev pub OfAddingOne : AddingOne → Type 0
OfAddingOne p = (t : Option CType) (fs : Option (List FieldDef)) → KeepsGlobals (p t fs)

abbrev pub OfCounting : Counting → Type 0
OfCounting c = (n : ℕ) → KeepsGlobals (c n)

abbrev pub Each : {A : Type 0} → (A → Type 0) → List A → Type 0
Each P [] = Unit {0}
Each P (x ∷ xs) = P x × Each P xs

abbrev pub IfThere : {A : Type 0} → (A → Type 0) → Option A → Type 0
IfThere P None = Unit {0}
IfThere P (Some x) = P x

-- Expressions.

pub valued_kept : (e : Typing) → OfTyping e → KeepsGlobals (spec.valued e)
valued_kept e k = by_then _ _ k (λ x. by_given x _ value_kept)

callee_value_kept : (e : Typing) → OfTyping e → KeepsGlobals (spec.callee_value e)
callee_value_kept e k = by_then _ _ k (λ x. by_given x _ callee_kept)

values_kept : (es : List Typing) → Each OfTyping es → KeepsGlobals (spec.values es)
values_kept [] ks = keeps (λ w. refl)
values_kept (e ∷ es) ks = by_then _ _ (valued_kept e ks.0) (λ x. by_done _ (λ xs. x ∷ xs) (values_kept es ks.1))

operand_kept : (o : UnaryOp) (e : Typing) → OfTyping e → KeepsGlobals (spec.operand o e)
operand_kept sign.Address e k = k
operand_kept sign.Deref e k = valued_kept e k
operand_kept sign.Not e k = valued_kept e k
operand_kept sign.Plus e k = valued_kept e k
operand_kept sign.Minus e k = valued_kept e k
operand_kept sign.Complement e k = valued_kept e k

before_kept : (a : Typing) → OfTyping a → KeepsGlobals (spec.before_bracket a)
before_kept a k = by_then _ _ k (λ x. by_given x _ indexed_kept)

pub index_step_kept : (a b : Typing) (p : Place) → OfTyping a → OfTyping b → KeepsGlobals (spec.index_step a b p)
index_step_kept a b p k l = by_then _ _ (before_kept a k) (λ y. by_then _ _ (valued_kept b l) (λ z. by_both y z _ (index_kept p)))

pub field_step_kept : (a : Typing) (name : NameId) (arrow : Bool) (p : Place) → OfTyping a → KeepsGlobals (spec.field_step a name arrow p)
field_step_kept a name arrow p k = by_then _ _ k (λ x. by_then _ _ (by_given x _ (accessed_kept arrow)) (λ y. by_given y _ (field_kept name arrow p)))

comma_of_kept : (p : Place) (x y : TExpr) → KeepsGlobals (comma_of p x y)
comma_of_kept p x y = keeps (λ w. refl)

pub comma_kept : (a b : Typing) (p : Place) → OfTyping a → OfTyping b → KeepsGlobals (spec.comma_step a b p)
comma_kept a b p k l = by_then _ _ (valued_kept a k) (λ x. by_then _ _ (valued_kept b l) (λ y. by_both x y _ (comma_of_kept p)))

pub unary_step_kept : (o : UnaryOp) (a : Typing) (p : Place) → OfTyping a → KeepsGlobals (spec.unary_step o a p)
unary_step_kept o a p k = by_then _ _ (operand_kept o a k) (λ x. by_given x _ (unary_kept o p))

pub pre_step_kept : (s : Step) (a : Typing) (p : Place) → OfTyping a → KeepsGlobals (spec.pre_step s a p)
pre_step_kept s a p k = by_then _ _ k (λ x. by_given x _ (pre_kept s p))

pub post_step_kept : (s : Step) (a : Typing) (p : Place) → OfTyping a → KeepsGlobals (spec.post_step s a p)
post_step_kept s a p k = by_then _ _ k (λ x. by_given x _ (post_kept s p))

type_named_kept : (h : Heading) → OfHeading h → KeepsGlobals (spec.type_named h)
type_named_kept h k = by_done (h.run h.first) (λ s. s.ctype) (k h.first)

-- Declarators and parameters.

pub shape_kept : (at : Pos) (t : Option CType) → KeepsGlobals (spec.bounded_shape at t)
shape_kept at t = by_done _ (λ u. record { ctype = u; own = None }) (by_given t _ (bounded_kept at))

one_kept : (n : ℕ) (h : Heading) → OfHeading h → KeepsGlobals (spec.parameter n h)
one_kept n h k =
    by_then _ _ (k _) (λ s.
    by_then _ _ (by_given (adjusted s.ctype) _ (bounded_kept (spec.where_named h.name h.first))) (λ t. parameter_kept n h.name h.first t))

parameters_kept : (n : ℕ) (hs : List Heading) → Each OfHeading hs → KeepsGlobals (spec.parameters n hs)
parameters_kept n [] ks = keeps (λ w. refl)
parameters_kept n (h ∷ hs) ks = by_then _ _ (one_kept n h ks.0) (λ x. by_done _ (λ xs. x ∷ xs) (parameters_kept (n + 1) hs ks.1))

if_kept : (hs : Option (List Heading)) → IfThere (Each OfHeading) hs → KeepsGlobals (spec.parameters 0 (spec.if_brackets hs))
if_kept None ks = keeps (λ w. refl)
if_kept (Some hs) ks = parameters_kept 0 hs ks

abbrev then_closed : Option (List Heading) → (variadic : Bool) → List Parameter → Check Own
then_closed hs variadic ps = close_scope >>= λ s. done (spec.own_of (not (is_there hs)) variadic ps s)

closed_kept : (hs : Option (List Heading)) (variadic : Bool) (ps : List Parameter) → KeepsGlobals (then_closed hs variadic ps)
closed_kept hs variadic ps = keeps (λ w. refl)

abbrev then_parameters : Option (List Heading) → (variadic : Bool) → Check Own
then_parameters hs variadic = spec.parameters 0 (spec.if_brackets hs) >>= then_closed hs variadic

then_parameters_kept : (hs : Option (List Heading)) (variadic : Bool) → IfThere (Each OfHeading) hs → KeepsGlobals (then_parameters hs variadic)
then_parameters_kept hs variadic ks = by_then (spec.parameters 0 (spec.if_brackets hs)) (then_closed hs variadic) (if_kept hs ks) (λ ps. closed_kept hs variadic ps)

opening_kept : KeepsGlobals (open_scope no_scope)
opening_kept = keeps (λ w. refl)

own_kept : (hs : Option (List Heading)) (variadic : Bool) → IfThere (Each OfHeading) hs → KeepsGlobals (spec.own_parameters hs variadic)
own_kept hs variadic ks = by_then (open_scope no_scope) (λ u. then_parameters hs variadic) opening_kept (λ u. then_parameters_kept hs variadic ks)

round_kept : (d : Declaring) (own : Own) (r : Option CType) (at : Pos) → OfDeclaring d → KeepsGlobals (spec.round_function d own r at)
round_kept d own r at k = by_done _ (λ s. spec.owned d.bare own s) (k at (spec.function_of r own))

pub function_kept : (d : Declaring) (hs : Option (List Heading)) (variadic : Bool) → OfDeclaring d → IfThere (Each OfHeading) hs → (at : Pos) (t : Option CType) → KeepsGlobals (spec.function_declarator d hs variadic at t)
function_kept d hs variadic k ks at t =
    by_then _ _ (by_given t _ (no_array_kept at)) (λ r. by_then _ _ (own_kept hs variadic ks) (λ own. round_kept d own r at k))

-- Members and enumerators.

pub parts_kept : (ps : List AddingOne) → Each OfAddingOne ps → (t : Option CType) (fs : Option (List FieldDef)) → KeepsGlobals (spec.parts ps t fs)
parts_kept [] ks t fs = keeps (λ w. refl)
parts_kept (p ∷ ps) ks t fs = by_then _ _ (ks.0 t fs) (λ gs. parts_kept ps ks.1 t gs)

line_kept : (ps : List AddingOne) → Each OfAddingOne ps → (t : Option CType) (fs : Option (List FieldDef)) → KeepsGlobals (spec.line ps t fs)
line_kept [] ks t fs = keeps (λ w. refl)
line_kept (p ∷ ps) ks t fs = parts_kept (p ∷ ps) ks t fs

members_kept : (ms : List Adding) → Each OfAdding ms → (fs : Option (List FieldDef)) → KeepsGlobals (spec.members ms fs)
members_kept [] ks fs = keeps (λ w. refl)
members_kept (m ∷ ms) ks fs = by_then _ _ (ks.0 fs) (λ gs. members_kept ms ks.1 gs)

enumerators_kept : (es : List Counting) → Each OfCounting es → (n : ℕ) → KeepsGlobals (spec.enumerators es n)
enumerators_kept [] ks n = keeps (λ w. refl)
enumerators_kept (e ∷ es) ks n = by_then _ _ (ks.0 n) (λ m. enumerators_kept es ks.1 m)

abbrev nothing : ℕ → Unit {0}
nothing n = tt

enumeration_kept : (name : Option NameId) (t : Tag) (es : Option (List Counting)) → IfThere (Each OfCounting) es → KeepsGlobals (spec.enumeration_of name t es)
enumeration_kept name t None ks = keeps (λ w. refl)
enumeration_kept name t (Some es) ks = by_then _ _ (begin_kept name t) (λ u. by_done _ nothing (enumerators_kept es ks 0))

module _ (here : Here) where
  -- Calls.

  if_declared_kept : (declared : Bool) (name : NameId) (p : Place) (e : Typing) → OfTyping e → KeepsGlobals (spec.callee_if here declared name p e)
  if_declared_kept false name p e k = keeps (λ w. refl)
  if_declared_kept true name p e k = callee_value_kept e k

  named_callee_kept : (name : NameId) (p : Place) (e : Typing) → OfTyping e → KeepsGlobals (spec.named_callee here name p e)
  named_callee_kept name p e k = by_then _ _ (keeps (λ w. refl)) (λ b. if_declared_kept b name p e k)

  by_builtin_kept : (b : Option Builtin) (name : NameId) (p : Place) (e : Typing) → OfTyping e → KeepsGlobals (spec.callee_by here b name p e)
  by_builtin_kept None name p e k = by_done _ (λ x. callees.Value x) (named_callee_kept name p e k)
  by_builtin_kept (Some b) name p e k = keeps (λ w. refl)

  callee_as_kept : (n : Option (NameId × Place)) (e : Typing) → OfTyping e → KeepsGlobals (spec.callee_as here n e)
  callee_as_kept None e k = by_done _ (λ x. callees.Value x) (callee_value_kept e k)
  callee_as_kept (Some (name, p)) e k = by_builtin_kept (here.builtin name.at) name p e k

  finish_kept : (p : Place) (c : Callee) (xs : List (Option TExpr)) → KeepsGlobals (spec.finish_call here p c xs)
  finish_kept p (callees.Value f) xs = call_kept here.widths p f xs
  finish_kept p (callees.Builtin b) xs = by_then _ _ (keeps (λ w. refl)) (λ s. builtin_kept here.widths b.name b.meaning s b.place p xs)

  pub called_kept : (p : Place) (f : Typing) (es : List Typing) → OfTyping f → Each OfTyping es → KeepsGlobals (spec.called here p f es)
  called_kept p f es k ks = by_then _ _ (callee_as_kept f.name f k) (λ c. by_then _ _ (values_kept es ks) (λ xs. finish_kept p c xs))

  -- Types.

  written_kept : (at : Pos) (n : Option Typing) → IfThere OfTyping n → KeepsGlobals (spec.written_length here at n)
  written_kept at None k = keeps (λ w. refl)
  written_kept at (Some e) k = by_then _ _ (valued_kept e k) (λ x. by_given x _ (length_kept here.widths at))

  pub array_kept : (d : Declaring) (n : Option Typing) → OfDeclaring d → IfThere OfTyping n → (at : Pos) (t : Option CType) → KeepsGlobals (spec.array_declarator here d n at t)
  array_kept d n k l at t = by_then _ _ (written_kept at n l) (λ m. by_then _ _ (by_given t _ (no_function_kept at)) (λ e. k at (array_of e m)))

  pub head_kept : (s : Naming) (d : Declaring) → OfNaming s → OfDeclaring d → (at : Pos) → KeepsGlobals (spec.head_run here s d at)
  head_kept s d k l at = by_then _ _ (k false) (λ t. l at t)

  -- Members.

  bits_kept : (n : Option Typing) → IfThere OfTyping n → KeepsGlobals (spec.written_width here n)
  bits_kept None k = keeps (λ w. refl)
  bits_kept (Some e) k = by_then _ _ (valued_kept e k) (λ x. by_given x _ (width_kept here.widths))

  abbrev member_with : NameId → Option CType → Bool → NewMember
  member_with name o new = record { name = name; ctype = o; new = new }

  member_named_kept : (name : NameId) (at : Pos) (d : Declaring) → OfDeclaring d → (t : Option CType) (fs : Option (List FieldDef)) → KeepsGlobals (spec.member_named here name at d t fs)
  member_named_kept name at d k t fs =
      by_then _ _ (k at t) (λ s. by_then _ _ (member_kept here.widths at s.ctype) (λ o. by_done _ (member_with name o) (new_member_kept name at fs)))

  named_member_kept : (name : Option (NameId × Pos)) (d : Declaring) (n : Option Typing) → OfDeclaring d → IfThere OfTyping n → (t : Option CType) (fs : Option (List FieldDef)) → KeepsGlobals (spec.named_member here name d n t fs)
  named_member_kept None d n k l t fs = keeps (λ w. refl)
  named_member_kept (Some (name, at)) d n k l t fs = by_then _ _ (member_named_kept name at d k t fs) (λ m. by_done _ (λ bits. spec.with_member m bits fs) (bits_kept n l))

  pub part_kept : (d : Option Declaring) (n : Option Typing) → IfThere OfDeclaring d → IfThere OfTyping n → (t : Option CType) (fs : Option (List FieldDef)) → KeepsGlobals (spec.part_of here d n t fs)
  part_kept None n k l t fs = by_done _ (λ bits. with_field None t bits fs) (bits_kept n l)
  part_kept (Some d) n k l t fs = named_member_kept d.name d n k l t fs

  pub member_of_kept : (s : Naming) (ps : List AddingOne) → OfNaming s → Each OfAddingOne ps → (fs : Option (List FieldDef)) → KeepsGlobals (spec.member_of here s ps fs)
  member_of_kept s ps k ks fs = by_then _ _ (k false) (λ t. line_kept ps ks t fs)

  body_kept : (name : Option NameId) (t : Tag) (ms : Option (List Adding)) → IfThere (Each OfAdding) ms → KeepsGlobals (spec.body_of here name t ms)
  body_kept name t None ks = keeps (λ w. refl)
  body_kept name t (Some ms) ks = by_then _ _ (begin_kept name t) (λ u. by_then _ _ (members_kept ms ks (Some [])) (λ fs. by_done _ (λ u. is_there fs) (complete_kept here.widths t.number fs)))

  pub aggregate_kept : (at : Pos) (union : Bool) (name : Option NameId) (ms : Option (List Adding)) → IfThere (Each OfAdding) ms → (alone : Bool) → KeepsGlobals (spec.aggregate_of here at union name ms alone)
  aggregate_kept at union name ms ks alone = by_then _ _ (tag_kept at name (aggregate_kind union) (is_there ms) alone) (λ t. by_done _ (λ b. only_if b (Some (aggregate_type union t.number))) (body_kept name t ms ks))

  number_kept : (next : ℕ) (at : Pos) (e : Option Typing) → IfThere OfTyping e → KeepsGlobals (spec.enumerator_number here next at e)
  number_kept next at None k = keeps (λ w. refl)
  number_kept next at (Some e) k = by_then _ _ (valued_kept e k) (λ x. number_value_kept here.widths next at x)

  pub counted_kept : (at : Pos) (name : NameId) (e : Option Typing) → IfThere OfTyping e → (next : ℕ) → KeepsGlobals (spec.enumerator_of here at name e next)
  counted_kept at name e k next = by_then _ _ (number_kept next at e k) (λ n. enumerator_kept name at n)

  pub enum_kept : (at : Pos) (name : Option NameId) (es : Option (List Counting)) → IfThere (Each OfCounting) es → (alone : Bool) → KeepsGlobals (spec.enum_of here at name es alone)
  enum_kept at name es ks alone = by_then _ _ (tag_kept at name tag.Enum (is_there es) alone) (λ t. by_done _ (λ u. Some int) (enumeration_kept name t es ks))

  -- Expressions with widths.

  pub assign_kept : (o : AssignOp) (a b : Typing) (p : Place) → OfTyping a → OfTyping b → KeepsGlobals (spec.assign_step here o a b p)
  assign_kept o a b p k l = by_then _ _ k (λ x. by_then _ _ (valued_kept b l) (λ y. by_given x _ (assigned_kept here.widths o p y)))

  pub choose_kept : (a b c : Typing) (p : Place) → OfTyping a → OfTyping b → OfTyping c → KeepsGlobals (spec.conditional_step here a b c p)
  choose_kept a b c p k l m =
      by_then _ _ (valued_kept a k) (λ x. by_then _ _ (valued_kept b l) (λ y. by_then _ _ (valued_kept c m) (λ z. conditional_kept here.widths p x y z)))

  pub operate_kept : (o : BinaryOp) (a b : Typing) (p : Place) → OfTyping a → OfTyping b → KeepsGlobals (spec.binary_step here o a b p)
  operate_kept o a b p k l = by_then _ _ (valued_kept a k) (λ x. by_then _ _ (valued_kept b l) (λ y. by_both x y _ (binary_kept here.widths o p)))

  pub cast_step_kept : (h : Heading) (a : Typing) (p : Place) → OfHeading h → OfTyping a → KeepsGlobals (spec.cast_step here h a p)
  cast_step_kept h a p k l = by_then _ _ (type_named_kept h k) (λ t. by_then _ _ (valued_kept a l) (λ x. by_both t x _ (cast_kept here.widths p)))

  pub sizeof_step_kept : (a : Typing) (p : Place) → OfTyping a → KeepsGlobals (spec.sizeof_step here a p)
  sizeof_step_kept a p k = by_then _ _ k (λ x. by_given x _ (sizeof_kept here.widths p))

  pub sizeof_type_step_kept : (h : Heading) (p : Place) → OfHeading h → KeepsGlobals (spec.sizeof_type_step here h p)
  sizeof_type_step_kept h p k = by_then _ _ (type_named_kept h k) (λ t. by_given t _ (sizeof_type_kept here.widths p))
