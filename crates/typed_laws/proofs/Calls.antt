-- Calls are typed: of functions, of pointers to functions, and of built-in functions.
use Rattle.std.proofs.Common.{◌≡◌, ◌⊎◌, ℕ, ◌+◌, Bool, true, false, not, ◌&&◌, ◌||◌, List, [], ◌∷◌, length, map, refl, sym, ap, subst, ◌∙◌, inl, inr}
use Rattle.std.proofs.lemmas.Bool.{true≢false, and_parts, or_left, or_right, or_from}
use Rattle.std.specs.Prelude.{Option, Some, None, nat_eq, nat_lt, if◌then◌else◌}
use Rattle.sc_base.specs.declared.pos.Pos.{Pos}
use Rattle.sc_base.specs.declared.pos.NameId.{NameId}
use Rattle.sc_base.specs.declared.skip.Unsupported.TheVariants as u
use Rattle.sc_base.specs.declared.skip.IllTyped.TheVariants as i
use Rattle.sc_tree.specs.declared.ctype.CType.{CType, CType-F, out-CType}
use Rattle.sc_tree.specs.declared.ctype.CType.TheVariants as ty
use Rattle.sc_tree.specs.declared.ctype.Signature.{Signature}
use Rattle.sc_tree.specs.declared.ctype.IntKind.TheVariants as kind
use Rattle.sc_tree.specs.declared.ctype.OpaqueKind.{OpaqueKind}
use Rattle.sc_tree.specs.declared.ctype.Widths.{Widths}
use Rattle.sc_tree.specs.declared.expr.Place.{Place}
use Rattle.sc_typed.specs.declared.expr.TExpr.{TExpr, out-TExpr}
use Rattle.sc_typed.specs.declared.expr.What.TheVariants as what
use Rattle.sc_typed.specs.Types as typed
use Rattle.sc_typed.specs.Constants.{is_null_constant}
use Rattle.sc_rules.specs.declared.walk.Builtin.{Builtin}
use Rattle.sc_rules.specs.declared.walk.Builtin.TheVariants as b
use Rattle.sc_rules.specs.declared.walk.Given.{Given}
use Rattle.sc_rules.specs.declared.walk.Given.TheVariants as takes
use Rattle.sc_rules.specs.Faults.{ill_typed_at, unsupported_at}
use Rattle.sc_rules.specs.Walks.{Check, ◌>>=◌, done}
use Rattle.sc_rules.specs.Conversions.{node, type_of, place_of, promote, convert, opaque_kind, opaque_layer, converted}
use Rattle.sc_calls.specs.Calls.{unknown_function, called_signature, result_of, takes_many, promoted_argument, argument_to, argument_unless, argument, front, behind as others, with_first, arguments, params_of, finished_call, call_with, call_taken, call_as, call, given_of, builtin_result, has_count, signature_or, two_longs, builtin_params, pointer_argument, in_front, first_pointer, builtin_arguments, no_pointer, passed_unless, passed, builtin_callee, builtin_given, builtin_as, builtin_call}
use Rattle.sc_world.specs.Tree as tree
use Rattle.sc_world.specs.Tree.{Ty, Int, Exp, Exps, NoExps, Exps', Call, Function}
use Rattle.sc_world.specs.Source.{Source, Effect, Operation, Try, Allocate, Release, Ends, Expect, Known, Unknown, effect, effect_or, effect_of_name, text_of, known_body, known_at, known_if, place_in, fits_signature, signature_at, sum_at}
use Rattle.sum_rows.specs.declared.row.Summary.{Summary}
use Rattle.sc_world.specs.View.{type, exp, exps}
use Rattle.sc_world.specs.Eval.{Want, Value, Place', is_name}
use Rattle.run_laws.specs.Fits.{converts_to, may_give, is_function, Unless, CallFits, FirstPoints, IsFirst}
use Rattle.fitting_laws.specs.Typed.{IsTyped, AllTyped, names_function}
use Rattle.typed_laws.specs.Named.{NamesAgree, AllAgree, NoTruthFirst, takes_pointer}
use Rattle.typed_laws.proofs.Types as types
use Rattle.typed_laws.proofs.Types.{array_seen, function_seen, type_out, type_int}
use Rattle.typed_laws.proofs.Trees.{typed_of, call_seen, call_value, function_seen as name_seen}
use Rattle.typed_laws.proofs.Nulls.{null_scalar}
use Rattle.typed_laws.proofs.Steps.{OnSome, Every, Gives, by_then, by_done, by_some, by_none, by_fault, by_if, by_unless, behind}
use Rattle.typed_laws.proofs.Made.{clash, is_object, seen, Made, Fresh, Valued, seen_pointer, convert_typed, convert_names, value_typed, integer_to, pointer_to}
use Rattle.typed_laws.proofs.Operators.{in_integer}
use Rattle.typed_laws.proofs.Values.{Given as GivenAs, FromPointer, PointerOrTruth, converted_made, converted_pointer, pointer_valued, pointer_no_integer}
use Rattle.typed_laws.proofs.Builtins.{Does, Locks, LocksAndTells, Tries, Makes, Frees, Stops, Expects, Refuses, Means}

never : {A : Type 0} → false ≡ true → A
never h = absurd (true≢false (sym h))

-- what a call gives is an integer, a pointer or nothing
results_may : (t : CType) → typed.is_aggregate t ≡ false → typed.is_array t ≡ false → typed.is_function t ≡ false → opaque_kind t ≡ None → may_give (type t) ≡ true
results_may t g a f o = ap may_give (type_out t) ∙ layer (out-CType t) g a f o
  where
    IsNone : Option OpaqueKind → Type 0
    IsNone None = Unit {0}
    IsNone (Some x) = ⊥

    layer : (f : CType-F CType Signature) → typed.is_aggregate_layer f ≡ false → typed.is_array_layer f ≡ false → typed.is_function_layer f ≡ false → opaque_layer f ≡ None → may_give (types.seen f) ≡ true
    layer CType-F.Void g a f o = refl
    layer CType-F.Bool g a f o = refl
    layer (CType-F.Int k) g a f o = refl
    layer (CType-F.Ptr t) g a f o = refl
    layer (CType-F.Array t n) g a f o = absurd (true≢false a)
    layer (CType-F.Struct n) g a f o = absurd (true≢false g)
    layer (CType-F.Union n) g a f o = absurd (true≢false g)
    layer (CType-F.Func x) g a f o = absurd (true≢false f)
    layer (CType-F.Opaque k) g a f o = absurd (subst IsNone (sym o) tt)

module _ (s : Source) where
  -- Arguments.

  abbrev pub Arg : TExpr → Type 0
  Arg y = NamesAgree s (seen s y) → IsTyped s Value (seen s y)

  abbrev All : List TExpr → Type 0
  All [] = Unit {0}
  All (y ∷ ys) = Arg y × All ys

  abbrev First : (TExpr → Type 0) → List TExpr → Type 0
  First P [] = ⊥
  First P (y ∷ ys) = P y

  abbrev pub AllGiven : List (Option TExpr) → Type 0
  AllGiven [] = Unit {0}
  AllGiven (x ∷ xs) = OnSome (Valued s) x × AllGiven xs

  all_typed : (ys : List TExpr) → All ys → AllAgree s (exps (map (exp s.structs) ys)) → AllTyped s (exps (map (exp s.structs) ys))
  all_typed [] h names = tt
  all_typed (y ∷ ys) h names = (h.0 names.0, all_typed ys h.1 names.1)

  module _ (w : Widths) (at : Pos) where
    promoted_made : (a : TExpr) → Valued s a → Gives Arg (promoted_argument at a)
    promoted_made a v =
        by_if (OnSome Arg) (typed.is_integer (type_of a)) _ _ (λ h. by_some Arg (promote a) (in_integer s (typed.promoted_kind (type_of a)) a v h).value)
        (λ h. by_if (OnSome Arg) (typed.is_pointer (type_of a)) _ _ (λ k. by_some Arg a v.value) (λ k. by_fault Arg (ill_typed_at i.Operand at)))

    to_made : (t : Option CType) (a : TExpr) → Valued s a → Gives Arg (argument_to w at t a)
    to_made None a v = promoted_made a v
    to_made (Some t) a v = record { all = λ n. side _ ((converted_made s w i.Operand at t a v).all n) }
      where
        side : (o : Option TExpr) → OnSome (GivenAs s t) o → OnSome Arg o
        side None h = tt
        side (Some y) h = h.value

    argument_made : (t : Option CType) (a : Option TExpr) → OnSome (Valued s) a → Gives Arg (argument w at t a)
    argument_made t None v = by_none Arg
    argument_made t (Some a) v = by_if (OnSome Arg) (typed.is_aggregate (type_of a)) _ _ (λ h. by_fault Arg (unsupported_at u.Struct (place_of a).first)) (λ h. to_made t a v)

    arguments_made : (ts : List CType) (as' : List (Option TExpr)) → AllGiven as' → Gives All (arguments w at ts as')
    arguments_made ts [] h = by_some All [] tt
    arguments_made ts (a ∷ as') h =
        by_then (OnSome Arg) (OnSome All) (argument w at (front ts) a) _ (argument_made (front ts) a h.0) (λ x hx.
        by_then (OnSome All) (OnSome All) (arguments w at (others ts) as') _ (arguments_made (others ts) as' h.1) (λ r hr. by_done (OnSome All) (with_first x r) (joined x r hx hr)))
      where
        joined : (x : Option TExpr) (r : Option (List TExpr)) → OnSome Arg x → OnSome All r → OnSome All (with_first x r)
        joined None r hx hr = tt
        joined (Some y) None hx hr = tt
        joined (Some y) (Some ys) hx hr = (hx, hr)

    -- the same, where something more is known of the first
    abbrev Led : (TExpr → Type 0) → List TExpr → Type 0
    Led P ys = All ys × First P ys

    abbrev With : (TExpr → Type 0) → TExpr → Type 0
    With P y = Arg y × P y

    led_made : (P : TExpr → Type 0) (ts : List CType) (a : Option TExpr) (as' : List (Option TExpr)) → Gives (With P) (argument w at (front ts) a) → AllGiven as' → Gives (Led P) (arguments w at ts (a ∷ as'))
    led_made P ts a as' first h =
        by_then (OnSome (With P)) (OnSome (Led P)) (argument w at (front ts) a) _ first (λ x hx.
        by_then (OnSome All) (OnSome (Led P)) (arguments w at (others ts) as') _ (arguments_made (others ts) as' h) (λ r hr. by_done (OnSome (Led P)) (with_first x r) (joined x r hx hr)))
      where
        joined : (x : Option TExpr) (r : Option (List TExpr)) → OnSome (With P) x → OnSome All r → OnSome (Led P) (with_first x r)
        joined None r hx hr = tt
        joined (Some y) None hx hr = tt
        joined (Some y) (Some ys) hx hr = ((hx.0, hr), hx.1)

    -- A pointer that is passed is a pointer or a truth value.

    abbrev Passed : TExpr → Type 0
    Passed y = PointerOrTruth s (tree.type_of (seen s y))

    passed_to : (t : Option CType) (a : TExpr) → Valued s a → typed.is_pointer (type_of a) ≡ true → Gives (With Passed) (argument_to w at t a)
    passed_to None a v p =
        by_if (OnSome (With Passed)) (typed.is_integer (type_of a)) _ _ (λ h. clash h (pointer_no_integer s (type_of a) p))
        (λ h. by_if (OnSome (With Passed)) (typed.is_pointer (type_of a)) _ _ (λ k. by_some (With Passed) a (v.value, or_left (tree.is_pointer (tree.type_of (seen s a))) (tree.is_bool (tree.type_of (seen s a))) (seen_pointer s a true p))) (λ k. by_fault (With Passed) (ill_typed_at i.Operand at)))
    passed_to (Some t) a v p = record { all = λ n. side _ ((converted_pointer s w i.Operand at t a v p).all n) }
      where
        side : (o : Option TExpr) → OnSome (FromPointer s t) o → OnSome (With Passed) o
        side None h = tt
        side (Some y) h = (h.is.value, subst (PointerOrTruth s) (sym h.is.type) h.stays)

    passed_made : (t : Option CType) (a : TExpr) → Valued s a → typed.is_pointer (type_of a) ≡ true → Gives (With Passed) (argument w at t (Some a))
    passed_made t a v p = by_if (OnSome (With Passed)) (typed.is_aggregate (type_of a)) _ _ (λ h. by_fault (With Passed) (unsupported_at u.Struct (place_of a).first)) (λ h. passed_to t a v p)

    -- A first argument of a type.

    abbrev OfType : CType → TExpr → Type 0
    OfType t y = tree.type_of (seen s y) ≡ type t

    typed_made : (t : CType) (a : Option TExpr) → OnSome (Valued s) a → Gives (With (OfType t)) (argument w at (Some t) a)
    typed_made t None v = by_none (With (OfType t))
    typed_made t (Some a) v =
        by_if (OnSome (With (OfType t))) (typed.is_aggregate (type_of a)) _ _ (λ h. by_fault (With (OfType t)) (unsupported_at u.Struct (place_of a).first))
        (λ h. record { all = λ n. side _ ((converted_made s w i.Operand at t a v).all n) })
      where
        side : (o : Option TExpr) → OnSome (GivenAs s t) o → OnSome (With (OfType t)) o
        side None h = tt
        side (Some y) h = (h.value, h.type)

    -- Arguments of built-in functions, by how they are taken.

    abbrev FirstIs : Given → List TExpr → Type 0
    FirstIs takes.Any ys = Unit {0}
    FirstIs takes.Pointer [] = Unit {0}
    FirstIs takes.Pointer (y ∷ ys) = Passed y
    FirstIs takes.Two [] = ⊥
    FirstIs takes.Two (y ∷ ys) = OfType (ty.Int kind.Long) y

    abbrev Taken : Given → List TExpr → Type 0
    Taken g ys = All ys × FirstIs g ys

    -- those that are given, once the first is made a pointer
    abbrev PointerFirst : List (Option TExpr) → Type 0
    PointerFirst [] = Unit {0}
    PointerFirst (None ∷ as') = Unit {0}
    PointerFirst (Some a ∷ as') = typed.is_pointer (type_of a) ≡ true

    abbrev Ready : Given → List (Option TExpr) → Type 0
    Ready takes.Pointer as' = AllGiven as' × PointerFirst as'
    Ready _ as' = AllGiven as'

    abbrev ValuedPointer : TExpr → Type 0
    ValuedPointer x = Valued s x × (typed.is_pointer (type_of x) ≡ true)

    null_goes : (a : TExpr) → Valued s a → is_null_constant w a ≡ true → ValuedPointer (convert a (ty.Ptr ty.Void))
    unfolding out-CType denote.Hole.Carrier.out
    null_goes a v h = (pointer_valued s a (ty.Ptr ty.Void) refl (λ names. convert_typed s a (ty.Ptr ty.Void) (value_typed s a v (convert_names s a (ty.Ptr ty.Void) names)) (goes (null_scalar w a h))), refl)
      where
        goes : (typed.is_integer (type_of a) ≡ true) ⊎ (typed.is_pointer (type_of a) ≡ true) → converts_to (tree.type_of (seen s a)) (type (ty.Ptr ty.Void)) ≡ true
        goes (inl k) = integer_to s a (ty.Ptr ty.Void) k refl
        goes (inr k) = pointer_to s a (ty.Ptr ty.Void) k refl

    pointer_made : (a : TExpr) → Valued s a → Gives ValuedPointer (pointer_argument w at a)
    pointer_made a v =
        by_if (OnSome ValuedPointer) (typed.is_pointer (type_of a)) _ _ (λ h. by_some ValuedPointer a (v, h))
        (λ h. by_if (OnSome ValuedPointer) (is_null_constant w a) _ _ (λ k. by_some ValuedPointer (convert a (ty.Ptr ty.Void)) (null_goes a v k)) (λ k. by_fault ValuedPointer (ill_typed_at i.Operand at)))

    first_ready : (as' : List (Option TExpr)) → AllGiven as' → Gives (Ready takes.Pointer) (first_pointer w at as')
    first_ready [] h = by_some (Ready takes.Pointer) [] (tt, tt)
    first_ready (None ∷ as') h = by_some (Ready takes.Pointer) (None ∷ as') (h, tt)
    first_ready (Some a ∷ as') h = by_then (OnSome ValuedPointer) (OnSome (Ready takes.Pointer)) (pointer_argument w at a) _ (pointer_made a h.0) (λ x hx. by_done (OnSome (Ready takes.Pointer)) (in_front x as') (side x hx))
      where
        side : (x : Option TExpr) → OnSome ValuedPointer x → OnSome (Ready takes.Pointer) (in_front x as')
        side None hx = tt
        side (Some y) hx = ((hx.0, h.1), hx.1)

    ready_made : (g : Given) (as' : List (Option TExpr)) → AllGiven as' → Gives (Ready g) (builtin_arguments w g at as')
    ready_made takes.Pointer as' h = first_ready as' h
    ready_made takes.Any as' h = by_some (Ready takes.Any) as' h
    ready_made takes.Two as' h = by_some (Ready takes.Two) as' h

    only_all : (ys : List TExpr) → All ys → Taken takes.Any ys
    only_all ys h = (h, tt)

    passed_all : (o : Option (List TExpr)) → OnSome (Led Passed) o → OnSome (Taken takes.Pointer) o
    passed_all None k = tt
    passed_all (Some []) k = absurd k.1
    passed_all (Some (y ∷ ys)) k = k

    long_all : (o : Option (List TExpr)) → OnSome (Led (OfType (ty.Int kind.Long))) o → OnSome (Taken takes.Two) o
    long_all None k = tt
    long_all (Some []) k = absurd k.1
    long_all (Some (y ∷ ys)) k = k

    taken_made : (g : Given) (x : Signature) (as' : List (Option TExpr)) → (g ≡ takes.Two → has_count takes.Two (length as') ≡ true) → Ready g as' → Gives (Taken g) (arguments w at (builtin_params g x) as')
    taken_made takes.Any x as' count h = record { all = λ n. side _ ((arguments_made (params_of x) as' h).all n) }
      where
        side : (o : Option (List TExpr)) → OnSome All o → OnSome (Taken takes.Any) o
        side None k = tt
        side (Some ys) k = (k, tt)
    taken_made takes.Pointer x [] count h = by_some (Taken takes.Pointer) [] (tt, tt)
    taken_made takes.Pointer x (None ∷ as') count h = record { all = λ n. passed_all (arguments w at (params_of x) (None ∷ as') n).0 ((led_made Passed (params_of x) None as' (by_none (With Passed)) h.0.1).all n) }
    taken_made takes.Pointer x (Some a ∷ as') count h = record { all = λ n. passed_all (arguments w at (params_of x) (Some a ∷ as') n).0 ((led_made Passed (params_of x) (Some a) as' (passed_made (front (params_of x)) a h.0.0 h.1) h.0.1).all n) }
    taken_made takes.Two x [] count h = never (count refl)
    taken_made takes.Two x (a ∷ as') count h = record { all = λ n. long_all (arguments w at two_longs (a ∷ as') n).0 ((led_made (OfType (ty.Int kind.Long)) two_longs a as' (typed_made (ty.Int kind.Long) a h.0) h.1).all n) }

  -- Calls.

  -- what is called
  pub record Called (f : TExpr) : Type 0 where
    pub typed : NamesAgree s (seen s f) → Unless (is_name (seen s f)) (IsTyped s Value (seen s f) × (names_function (seen s f) ≡ false))
    pub fits : (es : Exps) (t : Ty) → may_give t ≡ true → CallFits es t (effect s (seen s f) es t)

  -- what a call of a body does
  summed : (b : Bool) (k : ℕ) (o : Option Summary) (es : Exps) (t : Ty) → may_give t ≡ true → CallFits es t (known_if b k o)
  summed true k (Some sum) es t h = h
  summed true k None es t h = h
  summed false k o es t h = h

  placed : (g : ℕ) (o : Option ℕ) (es : Exps) (t : Ty) → may_give t ≡ true → CallFits es t (known_at s g es t o)
  placed g None es t h = h
  placed g (Some k) es t h = summed (fits_signature (signature_at s g) es t) k (sum_at s k) es t h

  pub body_fits : (body : Option ℕ) (es : Exps) (t : Ty) → may_give t ≡ true → CallFits es t (known_body s body es t)
  body_fits None es t h = h
  body_fits (Some g) es t h = placed g (place_in 0 g s.kept) es t h

  abbrev seen_all : List TExpr → Exps
  seen_all as' = exps (map (exp s.structs) as')

  -- a call whose type is one that calls give
  call_typed : (p : Place) (t : CType) (f : TExpr) (as' : List TExpr)
      → (NamesAgree s (seen s f) → Unless (is_name (seen s f)) (IsTyped s Value (seen s f) × (names_function (seen s f) ≡ false)))
      → (NoTruthFirst (takes_pointer (effect s (seen s f) (seen_all as') (type t))) (seen_all as') → may_give (type t) ≡ true → CallFits (seen_all as') (type t) (effect s (seen s f) (seen_all as') (type t)))
      → All as' → typed.is_aggregate t ≡ false → Fresh s (node (what.Call f as') t p)
  call_typed p t f as' callee fit all no_aggregate =
      record {
        made = record {
          value = λ names o. subst (IsTyped s Value) (sym is) (holds (subst (NamesAgree s) is names) o);
          place = λ names l. clash l (call_value f as' t p);
          object = λ names o. clash o (no_object (subst (NamesAgree s) is names));
        };
        plain = ap names_function is;
      }
    where
      is : seen s (node (what.Call f as') t p) ≡ (Call p (seen s f) (seen_all as') (type t))
      is = call_seen s.structs f as' t p

      no_array : NamesAgree s (Call p (seen s f) (seen_all as') (type t)) → typed.is_array t ≡ false
      no_array names = sym (array_seen t) ∙ names.2

      no_function : NamesAgree s (Call p (seen s f) (seen_all as') (type t)) → typed.is_function t ≡ false
      no_function names = sym (function_seen t) ∙ names.3

      no_object : NamesAgree s (Call p (seen s f) (seen_all as') (type t)) → is_object t ≡ false
      no_object names = or_from (typed.is_aggregate t) (typed.is_array t || typed.is_function t) no_aggregate (or_from (typed.is_array t) (typed.is_function t) (no_array names) (no_function names))

      holds : NamesAgree s (Call p (seen s f) (seen_all as') (type t)) → opaque_kind t ≡ None → IsTyped s Value (Call p (seen s f) (seen_all as') (type t))
      holds names o = (callee names.0, all_typed as' all names.1, tt, fit names.4 (results_may t no_aggregate (no_array names) (no_function names) o))

  finished_made : (p : Place) (t : CType) (f : TExpr) (r : Option (List TExpr)) → Called f → OnSome All r → typed.is_aggregate t ≡ false → OnSome (Fresh s) (finished_call p t f r)
  finished_made p t f None c h k = tt
  finished_made p t f (Some as') c h k = call_typed p t f as' c.typed (λ first may. c.fits (seen_all as') (type t) may) h k

  with_made : (p : Place) (t : CType) (f : TExpr) (r : Option (List TExpr)) → Called f → OnSome All r → Gives (Fresh s) (call_with p t f r)
  with_made p t f r c h =
      by_if (OnSome (Fresh s)) (typed.is_aggregate t) _ _ (λ k. by_fault (Fresh s) (unsupported_at u.Struct p.first)) (λ k. by_done (OnSome (Fresh s)) (finished_call p t f r) (finished_made p t f r c h k))

  as_made : (w : Widths) (x : Option Signature) (p : Place) (f : TExpr) (as' : List (Option TExpr)) → Called f → AllGiven as' → Gives (Fresh s) (call_as w x p f as')
  as_made w None p f as' c h = by_fault (Fresh s) (ill_typed_at i.Call p.first)
  as_made w (Some x) p f as' c h =
      by_unless (Fresh s) (takes_many x (length as')) _ (ill_typed_at i.Call p.first) (λ k.
      by_then (OnSome All) (OnSome (Fresh s)) (arguments w p.first (params_of x) as') _ (arguments_made w p.first (params_of x) as' h) (λ r hr. with_made p (result_of x) f r c hr))

  pub call_made : (w : Widths) (p : Place) (f : Option TExpr) (as' : List (Option TExpr)) → OnSome Called f → AllGiven as' → Gives (Fresh s) (call w p f as')
  call_made w p None as' c h = by_none (Fresh s)
  call_made w p (Some f) as' c h = as_made w (called_signature (type_of f)) p f as' c h

  -- Built-in functions.

  module _ (w : Widths) (at : Pos) where
    -- a pointer that is no truth value
    stays_pointer : (t : Ty) → PointerOrTruth s t → tree.is_bool t ≡ false → tree.is_pointer t ≡ true
    stays_pointer (tree.Ptr t) h k = refl
    stays_pointer tree.Bool' h k = absurd (true≢false k)
    stays_pointer _ h k = never h

    first_points : (as' : List TExpr) → FirstIs w at takes.Pointer as' → NoTruthFirst true (seen_all as') → FirstPoints (seen_all as')
    first_points [] h k = tt
    first_points (y ∷ ys) h k = stays_pointer (tree.type_of (seen s y)) h k

    void_may : (t : Ty) → tree.is_void t ≡ true → (tree.is_integer t || tree.is_void t) ≡ true
    void_may t h = or_right (tree.is_integer t) (tree.is_void t) h

    -- what a call does, that typing takes for a built-in function
    does_fit : (d : Builtin) (e : Effect) (as' : List TExpr) → Does d e → FirstIs w at (given_of d) as' → (d ≡ b.Refused → ⊥) → NoTruthFirst (takes_pointer e) (seen_all as') → CallFits (seen_all as') (type (builtin_result d)) e
    does_fit d e as' (Locks n) h r k = (ap (λ t. tree.is_integer t || tree.is_void t) types.type_void, first_points as' h k)
    does_fit d e as' (LocksAndTells n) h r k = (ap (λ t. tree.is_integer t || tree.is_void t) (type_int kind.Int), first_points as' h k)
    does_fit d e as' (Tries a c) h r k = (ap tree.is_integer (type_int kind.Int), first_points as' h k)
    does_fit d e as' (Makes zeroed) h r k = ap tree.is_pointer (types.type_pointer ty.Void)
    does_fit d e as' Frees h r k = (ap tree.is_void types.type_void, first_points as' h k)
    does_fit d e as' Stops h r k = tt
    does_fit d e [] Expects h r k = absurd h
    does_fit d e (y ∷ ys) Expects h r k = h
    does_fit d e as' (Refuses f) h r k = absurd (r refl)

    builtin_no_aggregate : (d : Builtin) → typed.is_aggregate (builtin_result d) ≡ false
    unfolding out-CType denote.Hole.Carrier.out
    builtin_no_aggregate (b.Nothing g) = refl
    builtin_no_aggregate (b.Int g) = refl
    builtin_no_aggregate (b.Long g) = refl
    builtin_no_aggregate (b.Object g) = refl
    builtin_no_aggregate b.Refused = refl

    -- what a name does by its own meaning, or else by none
    named_fits : (name : NameId) (d : Builtin) (as' : List TExpr) (o : Option Effect) → Means (Some d) o → (d ≡ b.Refused → ⊥) → FirstIs w at (given_of d) as'
        → NoTruthFirst (takes_pointer (effect_or o (known_body s None (seen_all as') (type (builtin_result d))))) (seen_all as') → may_give (type (builtin_result d)) ≡ true
        → CallFits (seen_all as') (type (builtin_result d)) (effect_or o (known_body s None (seen_all as') (type (builtin_result d))))
    named_fits name d as' None m r h k may = may
    named_fits name d as' (Some e) m r h k may = does_fit d e as' m h r k

    abbrev callee_seen : NameId → Builtin → Place → Exp
    callee_seen name d q = Function name None (type (unknown_function (builtin_result d)))

    builtin_typed : (name : NameId) (d : Builtin) (q p : Place) (as' : List TExpr) → Means (Some d) (effect_of_name s (text_of s name)) → (d ≡ b.Refused → ⊥) → Taken w at (given_of d) as' → Fresh s (node (what.Call (builtin_callee name d q) as') (builtin_result d) p)
    builtin_typed name d q p as' m r h =
        call_typed p (builtin_result d) (builtin_callee name d q) as'
        (λ names. subst (λ z. Unless (is_name z) (IsTyped s Value z × (names_function z ≡ false))) (sym is) tt)
        (subst (λ z. NoTruthFirst (takes_pointer (effect s z (seen_all as') (type (builtin_result d)))) (seen_all as') → may_give (type (builtin_result d)) ≡ true → CallFits (seen_all as') (type (builtin_result d)) (effect s z (seen_all as') (type (builtin_result d)))) (sym is)
        (λ k may. named_fits name d as' (effect_of_name s (text_of s name)) m r h.1 k may))
        h.0 (builtin_no_aggregate d)
      where
        is : seen s (builtin_callee name d q) ≡ callee_seen name d q
        is = name_seen s.structs name None (unknown_function (builtin_result d)) q

    passed_unless_made : (x : Option Pos) (ys : List TExpr) → Taken w at takes.Pointer ys → Gives (Taken w at takes.Pointer) (passed_unless x ys)
    passed_unless_made None ys h = by_some (Taken w at takes.Pointer) ys h
    passed_unless_made (Some q) ys h = by_fault (Taken w at takes.Pointer) (ill_typed_at i.Operand q)

    arguments_passed : (g : Given) (o : Option (List TExpr)) → OnSome (Taken w at g) o → Gives (Taken w at g) (passed g o)
    arguments_passed g None h = by_none (Taken w at g)
    arguments_passed takes.Pointer (Some ys) h = passed_unless_made (no_pointer ys) ys h
    arguments_passed takes.Any (Some ys) h = by_some (Taken w at takes.Any) ys h
    arguments_passed takes.Two (Some ys) h = by_some (Taken w at takes.Two) ys h

    given_made : (name : NameId) (d : Builtin) (x : Signature) (q p : Place) (as' : List (Option TExpr)) → at ≡ p.first → Means (Some d) (effect_of_name s (text_of s name)) → (d ≡ b.Refused → ⊥)
        → (given_of d ≡ takes.Two → has_count takes.Two (length as') ≡ true) → Ready w at (given_of d) as'
        → Gives (Fresh s) (arguments w at (builtin_params (given_of d) x) as' >>= λ r. passed (given_of d) r >>= λ t. done (finished_call p (builtin_result d) (builtin_callee name d q) t))
    given_made name d x q p as' is m r count h =
        by_then (OnSome (Taken w at (given_of d))) (OnSome (Fresh s)) (arguments w at (builtin_params (given_of d) x) as') _ (taken_made w at (given_of d) x as' count h)
        (λ o ho. by_then (OnSome (Taken w at (given_of d))) (OnSome (Fresh s)) (passed (given_of d) o) _ (arguments_passed (given_of d) o ho)
        (λ t ht. by_done (OnSome (Fresh s)) (finished_call p (builtin_result d) (builtin_callee name d q) t) (side t ht)))
      where
        side : (o : Option (List TExpr)) → OnSome (Taken w at (given_of d)) o → OnSome (Fresh s) (finished_call p (builtin_result d) (builtin_callee name d q) o)
        side None ho = tt
        side (Some ys) ho = builtin_typed name d q p ys m r ho

  -- arguments of which the first was made a pointer are as many
  abbrev Counted : Given → List (Option TExpr) → Type 0
  Counted g as' = g ≡ takes.Two → has_count takes.Two (length as') ≡ true

  ready_counted : (w : Widths) (at : Pos) (g : Given) (as' : List (Option TExpr)) → AllGiven as' → has_count g (length as') ≡ true → Gives (λ r. Ready w at g r × Counted g r) (builtin_arguments w g at as')
  ready_counted w at takes.Any as' h count = by_some (λ r. Ready w at takes.Any r × Counted takes.Any r) as' (h, λ is. count_of is)
    where
      count_of : takes.Any ≡ takes.Two → has_count takes.Two (length as') ≡ true
      count_of is = absurd (subst IsAny is tt)
        where
          IsAny : Given → Type 0
          IsAny takes.Any = Unit {0}
          IsAny _ = ⊥
  ready_counted w at takes.Two as' h count = by_some (λ r. Ready w at takes.Two r × Counted takes.Two r) as' (h, λ is. count)
  ready_counted w at takes.Pointer as' h count = record { all = λ n. side _ ((ready_made w at takes.Pointer as' h).all n) }
    where
      IsPointer : Given → Type 0
      IsPointer takes.Pointer = Unit {0}
      IsPointer _ = ⊥

      side : (o : Option (List (Option TExpr))) → OnSome (Ready w at takes.Pointer) o → OnSome (λ r. Ready w at takes.Pointer r × Counted takes.Pointer r) o
      side None k = tt
      side (Some r) k = (k, λ is. absurd (subst IsPointer is tt))

  builtin_by : (w : Widths) (name : NameId) (d : Builtin) (x : Signature) (q p : Place) (as' : List (Option TExpr)) → Means (Some d) (effect_of_name s (text_of s name)) → (d ≡ b.Refused → ⊥) → AllGiven as' → Gives (Fresh s) (builtin_as w name d x q p as')
  builtin_by w name d x q p as' m r h =
      by_unless (Fresh s) (has_count (given_of d) (length as') && takes_many x (length as')) _ (ill_typed_at i.Call p.first) (λ count.
      by_then (OnSome (λ o. Ready w p.first (given_of d) o × Counted (given_of d) o)) (OnSome (Fresh s)) (builtin_arguments w (given_of d) p.first as') _ (ready_counted w p.first (given_of d) as' h (and_parts (has_count (given_of d) (length as')) (takes_many x (length as')) count).0)
      (λ o ho. side o ho))
    where
      side : (o : Option (List (Option TExpr))) → OnSome (λ o. Ready w p.first (given_of d) o × Counted (given_of d) o) o → Gives (Fresh s) (builtin_given w name d x q p o)
      side None ho = by_none (Fresh s)
      side (Some as') ho = given_made w p.first name d x q p as' refl m r ho.1 ho.0

  abbrev IsTaken : Builtin → Type 0
  IsTaken b.Refused = ⊥
  IsTaken _ = Unit {0}

  pub builtin_made : (w : Widths) (name : NameId) (d : Builtin) (x : Option Signature) (q p : Place) (as' : List (Option TExpr)) → Means (Some d) (effect_of_name s (text_of s name)) → AllGiven as' → Gives (Fresh s) (builtin_call w name d x q p as')
  builtin_made w name b.Refused x q p as' m h = by_fault (Fresh s) (unsupported_at u.Call q.token)
  builtin_made w name (b.Nothing g) x q p as' m h = builtin_by w name (b.Nothing g) (signature_or (builtin_result (b.Nothing g)) x) q p as' m (λ is. subst IsTaken is tt) h
  builtin_made w name (b.Int g) x q p as' m h = builtin_by w name (b.Int g) (signature_or (builtin_result (b.Int g)) x) q p as' m (λ is. subst IsTaken is tt) h
  builtin_made w name (b.Long g) x q p as' m h = builtin_by w name (b.Long g) (signature_or (builtin_result (b.Long g)) x) q p as' m (λ is. subst IsTaken is tt) h
  builtin_made w name (b.Object g) x q p as' m h = builtin_by w name (b.Object g) (signature_or (builtin_result (b.Object g)) x) q p as' m (λ is. subst IsTaken is tt) h
