-- The walk over expressions makes what is typed, where it does so of their parts.
use Rattle.std.proofs.Common.{◌≡◌, ◌⊎◌, ℕ, Bool, true, false, not, ◌&&◌, ◌||◌, List, [], ◌∷◌, map, refl, sym, ap, subst, ◌∙◌, inl, inr}
use Rattle.std.proofs.lemmas.Bool.{true≢false}
use Rattle.std.specs.Prelude.{Option, Some, None, if◌then◌else◌}
use Rattle.sc_base.specs.declared.pos.NameId.{NameId}
use Rattle.sc_base.specs.declared.skip.Unsupported.TheVariants as u
use Rattle.sc_tree.specs.declared.op.AssignOp.{AssignOp}
use Rattle.sc_tree.specs.declared.op.BinaryOp.{BinaryOp}
use Rattle.sc_tree.specs.declared.op.Step.{Step}
use Rattle.sc_tree.specs.declared.op.UnaryOp.{UnaryOp}
use Rattle.sc_tree.specs.declared.op.UnaryOp.TheVariants as sign
use Rattle.sc_tree.specs.declared.ctype.CType.{CType, out-CType}
use Rattle.sc_tree.specs.declared.expr.Place.{Place}
use Rattle.sc_typed.specs.declared.expr.TExpr.{TExpr, out-TExpr}
use Rattle.sc_typed.specs.declared.expr.What.{What, What-F, out-What}
use Rattle.sc_typed.specs.declared.expr.What.TheFolds as folds
use Rattle.sc_rules.specs.declared.walk.Builtin.{Builtin}
use Rattle.sc_rules.specs.Walks.{Check, ◌>>=◌, done, given, both, name_means}
use Rattle.sc_rules.specs.Conversions.{type_of, place_of, value, value_unless, decayed, decayed_type, convert_if, opaque_kind}
use Rattle.sc_tree.specs.declared.ctype.OpaqueKind.{OpaqueKind}
use Rattle.sc_operators.specs.Binary.{int, binary}
use Rattle.sc_assignments.specs.Assignments.{pre_increment, post_increment, assignment}
use Rattle.sc_operators.specs.Conditionals.{comma, conditional}
use Rattle.sc_unary.specs.Operators.{unary, cast, index}
use Rattle.sc_unary.specs.Members.{field, is_there}
use Rattle.sc_names.specs.Structs.{size_now}
use Rattle.sc_calls.specs.Calls.{function_name_layer, is_function_name, callee, call, prototype, builtin_call, unknown_function}
use Rattle.sc_parts.specs.Names.{undeclared}
use Rattle.sc_parts.specs.Operands.{comma_of, assigned, sizeof_value, sizeof_type, indexed, accessed}
use Rattle.sc_typing.specs.declared.calls.Callee.{Callee}
use Rattle.sc_typing.specs.declared.calls.Callee.TheVariants as callees
use Rattle.sc_typing.specs.Here.{Here}
use Rattle.sc_typing.specs.Shapes.{Typing, Heading}
use Rattle.sc_typing.specs.Typing as spec
use Rattle.sc_world.specs.Tree as tree
use Rattle.sc_world.specs.Tree.{Ty, Exp, Exps, Function, Convert}
use Rattle.sc_world.specs.Source.{Source, Effect, effect, effect_or, effect_of_name, text_of, known_body}
use Rattle.sc_world.specs.View.{type, exp, exp_step}
use Rattle.sc_world.specs.Eval.{Value, Place', is_name}
use Rattle.run_laws.specs.Fits.{may_give, Unless, CallFits}
use Rattle.fitting_laws.specs.Typed.{IsTyped, names_function}
use Rattle.typed_laws.specs.Named.{NamesAgree}
use Rattle.typed_laws.specs.Meanings.{MeansAlike}
use Rattle.typed_laws.proofs.Trees.{form, exp_out, form_out, convert_seen, function_seen}
use Rattle.typed_laws.proofs.Steps.{OnSome, Every, Gives, by_then, by_done, by_some, by_none, by_fault, by_if, by_given, by_both, behind}
use Rattle.typed_laws.proofs.Made.{clash, seen, Made, Fresh, Valued}
use Rattle.typed_laws.proofs.Values.{Decays, decays, decayed_by, value_made}
use Rattle.typed_laws.proofs.Operators.{operators_made}
use Rattle.typed_laws.proofs.Assigning.{assignment_made, pre_made, post_made}
use Rattle.typed_laws.proofs.Choosing.{conditional_made, comma_made}
use Rattle.typed_laws.proofs.Unary.{Operand, unary_made, cast_made, sizes_made, type_sizes_made, Indexable, index_made}
use Rattle.typed_laws.proofs.Members.{Accessible, accessed_made, field_made, indexed_made, NameIs, MadeAs, function_made}
use Rattle.typed_laws.proofs.Calls.{AllGiven, Called, body_fits, call_made, builtin_made}
use Rattle.typed_laws.proofs.Builtins.{Means, names_mean}

abbrev pub Each : {A : Type 0} → (A → Type 0) → List A → Type 0
Each P [] = Unit {0}
Each P (x ∷ xs) = P x × Each P xs

-- Which expression is a function's name.

name_function : (e : Exp) → is_name e ≡ true → names_function e ≡ true
name_function (Function n b t) h = refl
name_function _ h = absurd (true≢false (sym h))

module _ (s : Source) where
  -- a function's name in one tree is one in the other
  name_layer : (y : What-F What TExpr) (t : Ty) (p : Place) → is_name (exp_step s.structs (folds.map-What What TExpr (Ty → Place → Exp) Exp (form s.structs) (exp s.structs) y) t p) ≡ function_name_layer y
  name_layer (What-F.Function n b) t p = refl
  name_layer _ t p = refl

  name_seen : (x : TExpr) → is_name (seen s x) ≡ is_function_name x
  name_seen x =
      ap is_name (exp_out s.structs x ∙ ap (λ f. f (type (type_of x)) (out-TExpr x).place) (form_out s.structs (out-TExpr x).what))
      ∙ name_layer (out-What (out-TExpr x).what) (type (type_of x)) (out-TExpr x).place

  abbrev pub OfTyping : Typing → Type 0
  OfTyping e = Gives (MadeAs s e.name) e.run

  as_made : (n : Option (NameId × Place)) (o : Option TExpr) → OnSome (MadeAs s n) o → OnSome (Made s) o
  as_made n None h = tt
  as_made n (Some x) h = h.is

  pub run_made : (e : Typing) → OfTyping e → Gives (Made s) e.run
  run_made e h = record { all = λ w. as_made e.name _ (h.all w) }

  -- an expression that is given to a rule
  then_given : {B : Type 0} (Q : B → Type 0) (e : Typing) (f : TExpr → Check (Option B)) → OfTyping e → ((x : TExpr) → Made s x → Gives Q (f x)) → Gives Q (e.run >>= λ x. given x f)
  then_given Q e f h rule = by_then (OnSome (Made s)) (OnSome Q) e.run _ (run_made e h) (λ x hx. by_given (Made s) Q x f hx rule)

  pub valued_made : (e : Typing) → OfTyping e → Gives (Valued s) (spec.valued e)
  valued_made e h = then_given (Valued s) e value h (value_made s)

  pub values_made : (es : List Typing) → Each OfTyping es → Every (AllGiven s) (spec.values es)
  values_made [] h = by_done (AllGiven s) [] tt
  values_made (e ∷ es) h =
      by_then (OnSome (Valued s)) (AllGiven s) (spec.valued e) _ (valued_made e h.0) (λ x hx.
      by_then (AllGiven s) (AllGiven s) (spec.values es) _ (values_made es h.1) (λ xs hxs. by_done (AllGiven s) (x ∷ xs) (hx, hxs)))

  operand_made : (o : UnaryOp) (e : Typing) → OfTyping e → Gives (Operand s o) (spec.operand o e)
  operand_made sign.Address e h = run_made e h
  operand_made sign.Deref e h = valued_made e h
  operand_made sign.Not e h = valued_made e h
  operand_made sign.Plus e h = valued_made e h
  operand_made sign.Minus e h = valued_made e h
  operand_made sign.Complement e h = valued_made e h

  -- two values that are given to a rule
  then_both : (x : Option TExpr) (e : Typing) (f : TExpr → TExpr → Check (Option TExpr)) (P : TExpr → Type 0) → OnSome P x → OfTyping e → ((a b : TExpr) → P a → Valued s b → Gives (Fresh s) (f a b)) → Gives (Fresh s) (spec.valued e >>= λ y. both x y f)
  then_both x e f P hx h rule = by_then (OnSome (Valued s)) (OnSome (Fresh s)) (spec.valued e) _ (valued_made e h) (λ y hy. by_both P (Valued s) (Fresh s) x y f hx hy rule)

  pub index_step : (a b : Typing) (p : Place) → OfTyping a → OfTyping b → Gives (Fresh s) (spec.index_step a b p)
  index_step a b p h k =
      by_then (OnSome (Indexable s)) (OnSome (Fresh s)) (spec.before_bracket a) _ (then_given (Indexable s) a indexed h (indexed_made s)) (λ y hy.
      then_both y b (index p) (Indexable s) hy k (λ c d. index_made s p c d))

  pub field_step : (a : Typing) (name : NameId) (arrow : Bool) (p : Place) → OfTyping a → Gives (Fresh s) (spec.field_step a name arrow p)
  field_step a name arrow p h =
      by_then (OnSome (Made s)) (OnSome (Fresh s)) a.run _ (run_made a h) (λ x hx.
      by_then (OnSome (Accessible s arrow)) (OnSome (Fresh s)) (given x (accessed arrow)) _ (by_given (Made s) (Accessible s arrow) x (accessed arrow) hx (accessed_made s arrow)) (λ y hy.
      by_given (Accessible s arrow) (Fresh s) y (field name arrow p) hy (field_made s name arrow p)))

  pub comma_step : (a b : Typing) (p : Place) → OfTyping a → OfTyping b → Gives (Fresh s) (spec.comma_step a b p)
  comma_step a b p h k =
      by_then (OnSome (Valued s)) (OnSome (Fresh s)) (spec.valued a) _ (valued_made a h) (λ x hx.
      then_both x b (comma_of p) (Valued s) hx k (λ c d v w. by_some (Fresh s) (comma p c d) (comma_made s p c d v w)))

  pub unary_step : (o : UnaryOp) (a : Typing) (p : Place) → OfTyping a → Gives (Fresh s) (spec.unary_step o a p)
  unary_step o a p h =
      by_then (OnSome (Operand s o)) (OnSome (Fresh s)) (spec.operand o a) _ (operand_made o a h) (λ x hx.
      by_given (Operand s o) (Fresh s) x (unary o p) hx (unary_made s o p))

  pub pre_step : (d : Step) (a : Typing) (p : Place) → OfTyping a → Gives (Fresh s) (spec.pre_step d a p)
  pre_step d a p h = then_given (Fresh s) a (pre_increment d p) h (pre_made s d p)

  pub post_step : (d : Step) (a : Typing) (p : Place) → OfTyping a → Gives (Fresh s) (spec.post_step d a p)
  post_step d a p h = then_given (Fresh s) a (post_increment d p) h (post_made s d p)

  module _ (here : Here) where
    pub assign_step : (o : AssignOp) (a b : Typing) (p : Place) → OfTyping a → OfTyping b → Gives (Fresh s) (spec.assign_step here o a b p)
    assign_step o a b p h k =
        by_then (OnSome (Made s)) (OnSome (Fresh s)) a.run _ (run_made a h) (λ x hx.
        by_then (OnSome (Valued s)) (OnSome (Fresh s)) (spec.valued b) _ (valued_made b k) (λ y hy.
        by_given (Made s) (Fresh s) x (assigned here.widths o p y) hx (λ c m. assignment_made s here.widths o p c y m hy)))

    pub conditional_step : (a b c : Typing) (p : Place) → OfTyping a → OfTyping b → OfTyping c → Gives (Fresh s) (spec.conditional_step here a b c p)
    conditional_step a b c p h k l =
        by_then (OnSome (Valued s)) (OnSome (Fresh s)) (spec.valued a) _ (valued_made a h) (λ x hx.
        by_then (OnSome (Valued s)) (OnSome (Fresh s)) (spec.valued b) _ (valued_made b k) (λ y hy.
        by_then (OnSome (Valued s)) (OnSome (Fresh s)) (spec.valued c) _ (valued_made c l) (λ z hz. conditional_made s here.widths p x y z hx hy hz)))

    pub binary_step : (o : BinaryOp) (a b : Typing) (p : Place) → OfTyping a → OfTyping b → Gives (Fresh s) (spec.binary_step here o a b p)
    binary_step o a b p h k =
        by_then (OnSome (Valued s)) (OnSome (Fresh s)) (spec.valued a) _ (valued_made a h) (λ x hx.
        then_both x b (binary here.widths o p) (Valued s) hx k (λ c d v w. operators_made s here.widths p c d v w o))

    pub cast_step : (g : Heading) (a : Typing) (p : Place) → OfTyping a → Gives (Fresh s) (spec.cast_step here g a p)
    cast_step g a p h =
        behind (OnSome (Fresh s)) (spec.type_named g) _ (λ t.
        then_both' t a (cast here.widths p) h (λ u c v. cast_made s here.widths p u c v))
      where
        then_both' : (t : Option CType) (e : Typing) (f : CType → TExpr → Check (Option TExpr)) → OfTyping e → ((u : CType) (b : TExpr) → Valued s b → Gives (Fresh s) (f u b)) → Gives (Fresh s) (spec.valued e >>= λ y. both t y f)
        then_both' t e f h rule = by_then (OnSome (Valued s)) (OnSome (Fresh s)) (spec.valued e) _ (valued_made e h) (λ y hy. by_both (λ u. Unit {0}) (Valued s) (Fresh s) t y f (anything t) hy (λ u b k v. rule u b v))
          where
            anything : (t : Option CType) → OnSome (λ u. Unit {0}) t
            anything None = tt
            anything (Some u) = tt

    pub sizeof_step : (a : Typing) (p : Place) → OfTyping a → Gives (Fresh s) (spec.sizeof_step here a p)
    sizeof_step a p h = then_given (Fresh s) a (sizeof_value here.widths p) h (λ x m. behind (OnSome (Fresh s)) (size_now here.widths (type_of x)) _ (λ n. sizes_made s here.widths n p x))

    pub sizeof_type_step : (g : Heading) (p : Place) → Gives (Fresh s) (spec.sizeof_type_step here g p)
    sizeof_type_step g p =
        behind (OnSome (Fresh s)) (spec.type_named g) _ (λ t.
        by_given (λ u. Unit {0}) (Fresh s) t (sizeof_type here.widths p) (anything t) (λ u h. behind (OnSome (Fresh s)) (size_now here.widths u) _ (λ n. type_sizes_made s here.widths n p)))
      where
        anything : (t : Option CType) → OnSome (λ u. Unit {0}) t
        anything None = tt
        anything (Some u) = tt

  -- What is called.

  -- an expression that is no name of a function does what is not known
  other_fits : (e : Exp) → names_function e ≡ false → (es : Exps) (t : Ty) → may_give t ≡ true → CallFits es t (effect s e es t)
  other_fits (Function n b u) h es t may = absurd (true≢false h)
  other_fits _ h es t may = may

  -- the value of what is no name of a function
  abbrev ValuedCallee : TExpr → Type 0
  ValuedCallee y = Valued s y × (names_function (seen s y) ≡ false)

  decayed_callee : (d : Option CType) (x : TExpr) → Made s x → names_function (seen s x) ≡ false → opaque_kind (type_of x) ≡ None → Decays s (out-CType (type_of x)) d → ValuedCallee (convert_if d x)
  decayed_callee None x m h o k = (decayed_by s None x m o k, h)
  decayed_callee (Some t) x m h o k = (decayed_by s (Some t) x m o k, ap names_function (convert_seen s.structs x t (place_of x)) ∙ h)

  value_callee : (k : Option OpaqueKind) (x : TExpr) → opaque_kind (type_of x) ≡ k → Made s x → names_function (seen s x) ≡ false → Gives ValuedCallee (value_unless k (decayed x))
  value_callee None x o m h = by_some ValuedCallee (decayed x) (decayed_callee (decayed_type (type_of x)) x m h o (decays s (out-CType (type_of x))))
  value_callee (Some k) x o m h = by_fault ValuedCallee _

  called_by : (o : Option TExpr) → OnSome ValuedCallee o → OnSome (Called s) o
  called_by None h = tt
  called_by (Some y) h = record { typed = λ names. unless (is_name (seen s y)) (h.0.value names, h.1); fits = other_fits (seen s y) h.1 }
    where
      unless : (b : Bool) → IsTyped s Value (seen s y) × (names_function (seen s y) ≡ false) → Unless b (IsTyped s Value (seen s y) × (names_function (seen s y) ≡ false))
      unless true h = tt
      unless false h = h

  value_called : (x : TExpr) → Made s x → names_function (seen s x) ≡ false → Gives (Called s) (value x)
  value_called x m h = record { all = λ w. called_by _ ((value_callee (opaque_kind (type_of x)) x refl m h).all w) }

  -- a function's name, where it has no meaning of its own
  abbrev Plain : Option (NameId × Place) → Type 0
  Plain None = Unit {0}
  Plain (Some (n, p)) = effect_of_name s (text_of s n) ≡ None

  plain_fits : (n : NameId) (m : NameId) (body : Option ℕ) (u : Ty) → m ≡ n → effect_of_name s (text_of s n) ≡ None → (es : Exps) (t : Ty) → may_give t ≡ true → CallFits es t (effect s (Function m body u) es t)
  plain_fits n m body u is none es t may =
      subst (λ o. CallFits es t (effect_or o (known_body s body es t))) (sym (ap (λ z. effect_of_name s (text_of s z)) is ∙ none)) (body_fits s body es t may)

  name_fits : (n : Option (NameId × Place)) (e : Exp) → NameIs s n e → Plain n → is_name e ≡ true → (es : Exps) (t : Ty) → may_give t ≡ true → CallFits es t (effect s e es t)
  name_fits (Some (n, p)) (Function m body u) is none h es t may = plain_fits n m body u is none es t may
  name_fits None e is none h es t may = clash (name_function e h) is
  name_fits (Some (n, p)) _ is none h es t may = absurd (true≢false (sym h))

  no_function : (n : Option (NameId × Place)) (e : Exp) → NameIs s n e → is_name e ≡ false → names_function e ≡ false
  no_function None e is h = is
  no_function (Some (n, p)) (Function m body u) is h = absurd (true≢false h)
  no_function (Some (n, p)) _ is h = is

  callee_made : (n : Option (NameId × Place)) (x : TExpr) → MadeAs s n x → Plain n → Gives (Called s) (callee x)
  callee_made n x m none =
      by_if (OnSome (Called s)) (is_function_name x) _ _
      (λ h. by_some (Called s) x (record { typed = λ names. subst (λ b. Unless b (IsTyped s Value (seen s x) × (names_function (seen s x) ≡ false))) (sym (name_seen x ∙ h)) tt; fits = name_fits n (seen s x) m.names none (name_seen x ∙ h) }))
      (λ h. value_called x m.is (no_function n (seen s x) m.names (name_seen x ∙ h)))

  callee_value_made : (e : Typing) → OfTyping e → Plain e.name → Gives (Called s) (spec.callee_value e)
  callee_value_made e h none = by_then (OnSome (MadeAs s e.name)) (OnSome (Called s)) e.run _ h (λ x hx. by_given (MadeAs s e.name) (Called s) x callee hx (λ y m. callee_made e.name y m none))

  module _ (here : Here) (alike : MeansAlike here s) where
    abbrev Calling : Callee → Type 0
    Calling (callees.Value x) = OnSome (Called s) x
    Calling (callees.Builtin b) = Means (Some b.meaning) (effect_of_name s (text_of s b.name))

    unknown_called : (name : NameId) (p : Place) → effect_of_name s (text_of s name) ≡ None → Called s (undeclared (here.body name.at) name p)
    unknown_called name p none =
        record {
          typed = λ names. subst (λ z. Unless (is_name z) (IsTyped s Value z × (names_function z ≡ false))) (sym is) tt;
          fits = λ es t may. subst (λ z. CallFits es t (effect s z es t)) (sym is) (plain_fits name name (here.body name.at) (type (unknown_function int)) refl none es t may);
        }
      where
        is : seen s (undeclared (here.body name.at) name p) ≡ Function name (here.body name.at) (type (unknown_function int))
        is = function_seen s.structs name (here.body name.at) (unknown_function int) p

    as_value : (o : Option TExpr) → OnSome (Called s) o → Calling (callees.Value o)
    as_value o h = h

    by_builtin : (b : Option Builtin) (name : NameId) (p : Place) (e : Typing) → e.name ≡ Some (name, p) → Means b (effect_of_name s (text_of s name)) → OfTyping e → Every Calling (spec.callee_by here b name p e)
    by_builtin (Some b) name p e is m h = by_done Calling (callees.Builtin (record { name = name; meaning = b; place = p })) m
    by_builtin None name p e is m h =
        by_then (OnSome (Called s)) Calling (spec.named_callee here name p e) _ (behind (OnSome (Called s)) (spec.is_declared name) _ (λ d. declared d)) (λ x hx. by_done Calling (callees.Value x) hx)
      where
        none_of : (o : Option Effect) → Means None o → o ≡ None
        none_of None h = refl
        none_of (Some x) h = absurd h

        none : effect_of_name s (text_of s name) ≡ None
        none = none_of (effect_of_name s (text_of s name)) m

        declared : (d : Bool) → Gives (Called s) (spec.callee_if here d name p e)
        declared false = by_some (Called s) (undeclared (here.body name.at) name p) (unknown_called name p none)
        declared true = callee_value_made e h (subst Plain (sym is) none)

    callee_as_made : (n : Option (NameId × Place)) (e : Typing) → e.name ≡ n → OfTyping e → Every Calling (spec.callee_as here n e)
    callee_as_made None e is h =
        by_then (OnSome (Called s)) Calling (spec.callee_value e) _ (callee_value_made e h (subst Plain (sym is) tt)) (λ x hx. by_done Calling (callees.Value x) hx)
    callee_as_made (Some (name, p)) e is h = by_builtin (here.builtin name.at) name p e is (names_mean here s alike name) h

    finish_made : (p : Place) (c : Callee) (xs : List (Option TExpr)) → Calling c → AllGiven s xs → Gives (Fresh s) (spec.finish_call here p c xs)
    finish_made p (callees.Value f) xs h k = call_made s here.widths p f xs h k
    finish_made p (callees.Builtin b) xs h k = behind (OnSome (Fresh s)) (spec.visible_prototype b.name) _ (λ x. builtin_made s here.widths b.name b.meaning x b.place p xs h k)

    pub called_step : (p : Place) (f : Typing) (es : List Typing) → OfTyping f → Each OfTyping es → Gives (Fresh s) (spec.called here p f es)
    called_step p f es h k =
        by_then Calling (OnSome (Fresh s)) (spec.callee_of here f) _ (callee_as_made f.name f refl h) (λ c hc.
        by_then (AllGiven s) (OnSome (Fresh s)) (spec.values es) _ (values_made es k) (λ xs hxs. finish_made p c xs hc hxs))
