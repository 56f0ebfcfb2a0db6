-- Expressions that fit give values and places of their types.
use Rattle.std.proofs.Common.{◌≡◌, ℕ, ◌+◌, ◌≤◌, ◌<◌, Bool, true, false, not, ◌&&◌, ◌||◌, List, [], ◌∷◌, length, nat_eq, refl, sym, ap, subst, ◌∙◌, inl, inr, ⊎_elim}
use Rattle.std.proofs.lemmas.Bool.{true≢false, and_parts, or_cases}
use Rattle.std.specs.Prelude.{Option, Some, None, slice_index_or, if◌then◌else◌}
use Rattle.sc_base.specs.declared.pos.NameId.{NameId}
use Rattle.sc_base.specs.declared.pos.Pos.{Pos}
use Rattle.sc_tree.specs.declared.expr.Place.{Place}
use Rattle.sc_tree.specs.declared.op.BinaryOp.{BinaryOp}
use Rattle.sc_tree.specs.declared.op.UnaryOp.{UnaryOp}
use Rattle.sc_tree.specs.declared.op.UnaryOp.TheVariants as sign
use Rattle.sc_tree.specs.declared.op.Step.{Step}
use Rattle.fsm_spec.specs.Table.{IsWhole}
use Rattle.sc_typed.specs.Arith.{computed, takes}
use Rattle.run_store.specs.Concrete.{Cell, Number as Num, Pointer, Nothing, kind_of}
use Rattle.sum_rows.specs.declared.path.Step.TheVariants as step
use Rattle.sum_rows.specs.declared.report.What.TheVariants as what
use Rattle.sc_world.specs.declared.run.Origin.{Origin}
use Rattle.sc_world.specs.declared.run.Origin.TheVariants as origin
use Rattle.sc_world.specs.declared.run.Reason.TheVariants as reason
use Rattle.sc_world.specs.Tree.{Ty, is_integer, is_pointer, is_array, is_void, int_bits, has_sign, promoted_type, target_or_void, Exp, Comma, Assign, Cond, Binary, Cast, Unary, PreInc, PostInc, SizeofExpr, SizeofType, Index, Call, Field, Param, Local, Global, Function, Number, Str, Convert, Temp, TempPlace, Exps, NoExps, Exps', type_of}
use Rattle.sc_world.specs.Source.{Source, Effect, Operation, Try, Allocate, Release, Ends, Expect, Known, Unknown, called_name, sum_at}
use Rattle.sc_world.specs.Layout.{Layout, Occurrence, Placed, location, location_of, part, has_type, is_stub, site_at, occurrence_at}
use Rattle.sc_world.specs.World.{World, Run, ◌>>=◌, done, Env, is_true, number_of, load, store, pointer_to, target_of, reach, dereference, target_or_null}
use Rattle.sc_world.specs.Eval.{Want, Value, Place', scalar_at, wanted, place_of, convert, not_taken, operated, signed_as, one_step, counted, part_or, member, element_or, element, or_itself, first_element, first_arg, act, call, truth_cell, assign_value, needs_right, is_logical, is_name, eval, eval_all}
use Rattle.run_laws.specs.Proper.{IsClosed, IsProper}
use Rattle.run_laws.specs.Fits.{IsValueOf, may_be_stub, StandsAt, IsPlaceOf, is_scalar, operands_fit, compares_pointers, converts_to, unless_array, IsRead, may_give, IsFirst, CallFits, IsStubThere, ElementsFit, Indexed, MemberFits, Fits, FitAll}
use Rattle.run_laws.proofs.Steps.{Leads, chain, gives, stops, either, either_as, holds, both, requires, weaker, Inside, Rules}
use Rattle.run_laws.proofs.Places.{IfPlace, AreInside, place_named, place_inside}
use Rattle.run_laws.proofs.Values.{tree, loads, stores, tells, reaches, first_arg_inside, copies, counts}
use Rattle.run_laws.proofs.Calls.{frees, zero_has, operates_on, tries, allocates, unknowns, knows_by, Results}
use Rattle.run_laws.proofs.Expressions.{evaluates, evaluates_all, combines, calls_callee}
use Rattle.run_laws.proofs.Stores.{proper_rules}
use Rattle.run_laws.proofs.Types.{or_false, or_right, integer_no_void, pointer_no_integer, stub_no_integer, integer_scalar, cell_kind, typed_there, scalar_typed, value_number, value_pointer, value_void, value_target, place_of_pointer, place_value, no_nothing, no_pointer, alike, numbers_alike, pointers_alike, converted_value, array_pointer, promoted_integer, to_promoted, from_promoted}

module _ (s : Source) (p : Layout) (choice : List Bool) (temps : List Cell) (whole : IsWhole s.machine) (closed : IsClosed p) (temps_inside : (k : ℕ) → target_of (slice_index_or temps k Nothing) ≤ length p.locations) where
  abbrev P : World → Type 0
  P = IsProper s p

  abbrev r : Rules s p temps P
  r = proper_rules s p temps whole closed temps_inside

  abbrev here : ℕ → Env
  here t = tree s p choice temps P r t

  -- the value or the place of that type
  abbrev pub Has : Want → Ty → Cell → Type 0
  Has Value y c = IsValueOf s y c
  Has Place' y c = IsPlaceOf p y c

  abbrev IsAt : Ty → ℕ → Type 0
  IsAt y at = has_type (location p at) y ≡ true

  retyped : (want : Want) (u y : Ty) (m : Run Cell) → u ≡ y → Leads P (Has want u) m → Leads P (Has want y) m
  retyped want u y m e l = subst (λ z. Leads P (Has want z) m) e l

  read_has : (want : Want) (y : Ty) (c : Cell) → IsRead want → IsValueOf s y c → Has want y c
  read_has Value y c h v = v
  read_has Place' y c h v = absurd h

  reads : (want : Want) (y : Ty) (m : Run Cell) → IsRead want → Leads P (IsValueOf s y) m → Leads P (Has want y) m
  reads want y m h l = weaker P (λ c v. read_has want y c h v) l

  -- Places.

  loads_value : (y : Ty) (at : ℕ) → is_scalar y ≡ true → IsAt y at → Leads P (IsValueOf s y) (load at)
  loads_value y at e h = record {
    by = λ w proper. (
      proper,
      record { kind = λ _. proper.kinds at (typed_there p at y h) ∙ cell_kind s (location p at).type y h e },
    );
  }

  scalar_value : (y : Ty) (at : ℕ) → IsAt y at → Leads P (IsValueOf s y) (scalar_at at y)
  scalar_value y at h =
      either_as P (is_integer y || is_pointer y) (λ e. loads_value y at e h)
      (λ e. gives P {a = pointer_to at} (value_pointer s y (or_false (is_integer y) (is_pointer y) e).0 (at + 1)))

  wants_typed : (want : Want) (y : Ty) (at : ℕ) → IsAt y at → Leads P (Has want y) (wanted want y at)
  wants_typed Value y at h = scalar_value y at h
  wants_typed Place' y at h = gives P {a = pointer_to at} (place_of_pointer p y at (inl h))

  stub_has : (want : Want) (y : Ty) (at : ℕ) → at < length p.locations → may_be_stub y ≡ true → is_stub (location p at) ≡ true
      → Has want y (pointer_to at)
  stub_has Value y at less e h = value_pointer s y (stub_no_integer y e) (at + 1)
  stub_has Place' y at less e h = place_of_pointer p y at (inr (less, e, h))

  stub_typed : (want : Want) (o : Origin) (y : Ty) → IsStubThere p o y → Leads P (Has want y) (done (pointer_to (location_of p o)))
  stub_typed want o y h = gives P {a = pointer_to (location_of p o)} (stub_has want y (location_of p o) h.0.0 h.1 h.2)

  reaches_typed : (t : ℕ) (y : Ty) (c : Cell) → Inside p c → Leads P (IsAt y) (dereference (here t) y c)
  reaches_typed t y c h =
      chain P (reaches s p choice temps P r t c h)
      (λ at _. chain P (holds P (has_type (location p at) y) reason.Type) (λ _ e. gives P {a = at} e))

  member_typed : (t : ℕ) (u : Ty) (n : NameId) (y : Ty) (at : ℕ) → MemberFits p u n y → StandsAt p u at
      → Leads P (IsAt y) (member (here t) n at)
  member_typed t u n y at fits h =
      let found = fits at h in
      subst (λ o. Leads P (IsAt y) (part_or o)) (sym found.1) (gives P {a = found.0} found.2)

  element_found : (y : Ty) (o : Option ℕ) → ((to : ℕ) → o ≡ Some to → IsAt y to) → Leads P (IsAt y) (element_or o)
  element_found y None h = stops P
  element_found y (Some to) h = gives P {a = to} (h to refl)

  element_typed : (t : ℕ) (u y : Ty) (at k : ℕ) → ElementsFit p u y → StandsAt p u at → Leads P (IsAt y) (element (here t) at k)
  element_typed t u y at k fits h = element_found y (part p at (step.Elem k)) (λ to e. fits at k to h e)

  -- Operators.

  truth_value : (t : ℕ) (y : Ty) (b : Bool) → is_integer y ≡ true → IsValueOf s y (truth_cell (here t) y b)
  truth_value t y b e = value_number s y e (Rattle.sc_typed.specs.Arith.truth b)

  operates_typed : (t : ℕ) (o : BinaryOp) (u y : Ty) (a b : Cell) → is_integer y ≡ true → alike (kind_of a) (kind_of b) ≡ true
      → Leads P (IsValueOf s y) (operated (here t) o u y a b)
  operates_typed t o u y (Num v m) (Num w n) e h =
      chain P (requires P (takes o (int_bits s.widths u) (has_sign u) m n) (not_taken o))
      (λ _ _. gives P (value_number s y e (computed o (int_bits s.widths u) (has_sign u) m n)))
  operates_typed t o u y (Pointer q) (Pointer q') e h = gives P (value_number s y e _)
  operates_typed t o u y (Num v m) (Pointer q) e h = absurd (true≢false (sym h))
  operates_typed t o u y (Num v m) Nothing e h = absurd (true≢false (sym h))
  operates_typed t o u y (Pointer q) (Num v m) e h = absurd (true≢false (sym h))
  operates_typed t o u y (Pointer q) Nothing e h = absurd (true≢false (sym h))
  operates_typed t o u y Nothing b e h = absurd (true≢false (sym h))

  -- operands that fit are two numbers or two pointers
  operands_alike : (o : BinaryOp) (u v : Ty) (a b : Cell) → is_logical o ≡ false → operands_fit o u v ≡ true → IsValueOf s u a
      → IsValueOf s v b → alike (kind_of a) (kind_of b) ≡ true
  operands_alike o u v a b e h ha hb =
      let fits : (is_integer u && is_integer v) || (compares_pointers o && (is_pointer u && is_pointer v)) ≡ true =
      sym (ap (λ c. if c then is_scalar u && is_scalar v else ((is_integer u && is_integer v) || (compares_pointers o && (is_pointer u && is_pointer v)))) e) ∙ h in
      ⊎_elim
      (λ i. let x = and_parts (is_integer u) (is_integer v) i in numbers_alike s u v a b x.0 x.1 ha hb)
      (λ i.
      let x = and_parts (is_pointer u) (is_pointer v) (and_parts (compares_pointers o) (is_pointer u && is_pointer v) i).1 in
      pointers_alike s u v a b x.0 x.1 ha hb)
      (or_cases (is_integer u && is_integer v) (compares_pointers o && (is_pointer u && is_pointer v)) fits)

  signs_typed : (t : ℕ) (o : UnaryOp) (u y : Ty) (c : Cell) → is_integer u ≡ true → is_integer y ≡ true → IsValueOf s u c
      → IsValueOf s y (signed_as (here t) o y c)
  signs_typed t o u y (Num w n) e f h = value_number s y f _
  signs_typed t o u y (Pointer q) e f h = absurd (no_pointer s u q e h)
  signs_typed t o u y Nothing e f h = absurd (no_nothing s u (integer_no_void u e) h)

  counts_typed : (t : ℕ) (d : Step) (y : Ty) (c : Cell) → is_integer y ≡ true → IsValueOf s y c
      → Leads P (IsValueOf s y) (counted (here t) d y c)
  counts_typed t d y c e h =
      let up = promoted_type y in
      let old = converted_value s (here t) y up c refl (to_promoted y e) h in
      let one = value_number s up (promoted_integer y) 1 in
      chain P
      (operates_typed t (one_step d) up up (convert (here t) y up c) (Num (int_bits s.widths up) 1) (promoted_integer y)
      (numbers_alike s up up (convert (here t) y up c) (Num (int_bits s.widths up) 1) (promoted_integer y) (promoted_integer y) old one))
      (λ v hv. gives P {a = convert (here t) up y v} (converted_value s (here t) up y v refl (from_promoted y e) hv))

  -- what is assigned

  assigns_typed : (t : ℕ) (want : Want) (y : Ty) (q v : Cell) → Inside p q → Inside p v → is_scalar y ≡ true → IsPlaceOf p y q
      → Leads P (Has want y) (assign_value (here t) want y q v)
  assigns_typed t want y q v hq hv e h =
      chain P (stores s p choice temps P r (place_of q) v (place_inside p q hq) hv)
      (λ _ _. wants_typed want y (place_of q) (scalar_typed p y (place_of q) e h.stands))

  place_has : (want : Want) (y : Ty) (q : Cell) → is_integer y ≡ false → IsPlaceOf p y q → Has want y q
  place_has Value y q e h = place_value s p y q e h
  place_has Place' y q e h = h

  -- conversions

  converts_typed : (b : Bool) (u y : Ty) (a : Exp) (t : ℕ) → is_array u ≡ b → converts_to u y ≡ true
      → Leads P (λ c. Inside p c × Has (if b then Place' else Value) u c) (eval a (if b then Place' else Value) (here t))
      → Leads P (IsValueOf s y)
      (if b
      then (eval a Place' (here t) >>= λ q. done (first_element (here t) q))
      else (eval a Value (here t) >>= λ v. done (convert (here t) u y v)))
  converts_typed true u y a t e h l =
      chain P l
      (λ q _. gives P {a = first_element (here t) q}
      (record {
        kind = λ nv.
            (value_pointer s y (array_pointer (is_array u) y _ e h nv)
            (or_itself (place_of q) (part p (place_of q) (step.Elem 0)) + 1)).kind nv;
      }))
  converts_typed false u y a t e h l =
      chain P l (λ v hv. gives P {a = convert (here t) u y v} (converted_value s (here t) u y v refl h hv.1))

  -- Calls.

  abbrev pub HaveTypes : Exps → List Cell → Type 0
  HaveTypes NoExps [] = Unit {0}
  HaveTypes (Exps' e es) (v ∷ vs) = IsValueOf s (type_of e) v × HaveTypes es vs
  HaveTypes _ _ = ⊥

  first_typed : (es : Exps) (vs : List Cell) (y : Ty) → HaveTypes es vs → IsFirst es y → IsValueOf s y (first_arg vs)
  first_typed NoExps vs y h i = absurd i
  first_typed (Exps' e es) [] y h i = absurd h
  first_typed (Exps' e es) (v ∷ vs) y h i = subst (λ z. IsValueOf s z v) i h.0

  results_typed : (y : Ty) (o : Option ℕ) → may_give y ≡ true → Results s p choice temps P r (IsValueOf s y) y o
  results_typed y o h = record {
    number = λ e n. value_number s y e n;
    null = λ e. value_pointer s y (pointer_no_integer y e) 0;
    object = λ e. value_target s y (pointer_no_integer y e) o;
    nothing = λ e f.
        value_void s y
        (or_right (is_pointer y) (is_void y) (or_right (is_integer y) (is_pointer y || is_void y) h e) f) Nothing;
  }

  act_typed : (t : ℕ) (q : Pos) (y : Ty) (o : Occurrence) (es : Exps) (vs : List Cell) (e : Effect) → CallFits es y e → HaveTypes es vs
      → IfPlace p o.object → AreInside p vs → Leads P (IsValueOf s y) (act (here t) q y o vs e)
  act_typed t q y o es vs (Operation n) fits hv ho hs =
      operates_on s p choice temps P r (IsValueOf s y) t q y n (first_arg vs) (first_arg_inside s p choice temps P r vs hs)
      (zero_has s p choice temps P r (IsValueOf s y) t y (λ e. value_number s y e 0)
      (λ e. value_void s y (or_right (is_integer y) (is_void y) fits.0 e) Nothing))
  act_typed t q y o es vs (Try a b) fits hv ho hs =
      tries s p choice temps P r (IsValueOf s y) t y o a b (first_arg vs) (first_arg_inside s p choice temps P r vs hs)
      (λ n. value_number s y fits.0 n)
  act_typed t q y o es vs (Allocate zeroed) fits hv ho hs =
      allocates s p choice temps P r (IsValueOf s y) t o (value_target s y (pointer_no_integer y fits) o.object)
      (value_pointer s y (pointer_no_integer y fits) 0)
  act_typed t q y o es vs Release fits hv ho hs =
      chain P (frees s p choice temps P r t (first_arg vs)) (λ _ _. gives P {a = Nothing} (value_void s y fits.0 Nothing))
  act_typed t q y o es vs Ends fits hv ho hs = stops P
  act_typed t q y o es vs Expect fits hv ho hs = gives P {a = first_arg vs} (first_typed es vs y hv fits)
  act_typed t q y o es vs (Known k) fits hv ho hs =
      knows_by s p choice temps P r (IsValueOf s y) t q y o vs (sum_at s k) ho hs (results_typed y o.object fits)
  act_typed t q y o es vs Unknown fits hv ho hs =
      unknowns s p choice temps P r (IsValueOf s y) t o y vs (results_typed y o.object fits)

  calls_typed : (t : ℕ) (x : Place) (f : Exp) (y : Ty) (c : Placed) (es : Exps) (vs : List Cell) → CallFits es y c.site.effect
      → HaveTypes es vs → AreInside p vs → Leads P (IsValueOf s y) (call (here t) x f y c vs)
  calls_typed t x f y c es vs fits hv hs =
      chain P (tells s p choice temps P r x.first (what.Call (called_name f)))
      (λ _ _. act_typed t x.first y (occurrence_at p c t) es vs c.site.effect fits hv
      (place_named p (occurrence_at p c t).object (closed.objects (c.first + t))) hs)

  -- Expressions.

  abbrev Typed : Exp → Type 0
  Typed e = (want : Want) (t : ℕ) → Fits p want e → Leads P (Has want (type_of e)) (eval e want (here t))

  inside : (e : Exp) (want : Want) (t : ℕ) → Leads P (Inside p) (eval e want (here t))
  inside e want t = evaluates s p choice temps P r e want t

  whole_typed : (e : Exp) → Typed e → (want : Want) (t : ℕ) → Fits p want e
      → Leads P (λ c. Inside p c × Has want (type_of e) c) (eval e want (here t))
  whole_typed e l want t fits = both P (inside e want t) (l want t fits)

  assign_typed : (works : Ty) (a b : Exp) (y : Ty) → Typed a → Typed b → Typed (Assign None works a b y)
  assign_typed works a b y la lb want t fits =
      chain P (whole_typed a la Place' t fits.0)
      (λ q hq. either_as P (is_integer y || is_pointer y)
      (λ e. chain P (inside b Value t)
      (λ v hv. assigns_typed t want y q v hq.0 hv e (subst (λ z. IsPlaceOf p z q) fits.2 hq.1)))
      (λ e. chain P (inside b Place' t)
      (λ v _. chain P (copies s p choice temps P r t (place_of v) (place_of q))
      (λ _ _. gives P {a = q}
      (place_has want y q (or_false (is_integer y) (is_pointer y) e).0 (subst (λ z. IsPlaceOf p z q) fits.2 hq.1))))))

  update_typed : (o : BinaryOp) (works : Ty) (a b : Exp) (y : Ty) → Typed a → Typed (Assign (Some o) works a b y)
  update_typed o works a b y la want t fits =
      chain P (whole_typed a la Place' t fits.0)
      (λ q hq. chain P (loads s p choice temps P r (place_of q))
      (λ old _. chain P (inside b Value t)
      (λ v _. chain P (combines s p choice temps P r t o works y old v)
      (λ c hc. assigns_typed t want y q c hq.0 hc (integer_scalar y fits.3) (subst (λ z. IsPlaceOf p z q) fits.2 hq.1)))))

  binary_typed : (o : BinaryOp) (a b : Exp) (y : Ty) → Typed a → Typed b → Typed (Binary o a b y)
  binary_typed o a b y la lb want t fits =
      reads want y (eval (Binary o a b y) Value (here t)) fits.2
      (chain P (la Value t fits.0)
      (λ x hx. either_as P (is_logical o)
      (λ _. either P (needs_right o (is_true x))
      (chain P (inside b Value t) (λ z _. gives P {a = truth_cell (here t) y (is_true z)} (truth_value t y (is_true z) fits.3)))
      (gives P {a = truth_cell (here t) y (is_true x)} (truth_value t y (is_true x) fits.3)))
      (λ e. chain P (lb Value t fits.1)
      (λ z hz. operates_typed t o (type_of a) y x z fits.3 (operands_alike o (type_of a) (type_of b) x z e fits.4 hx hz)))))

  conversion_typed : (a : Exp) (y : Ty) → Typed a → (want : Want) (t : ℕ) → Fits p want (Convert a y)
      → Leads P (Has want y) (eval (Convert a y) want (here t))
  conversion_typed a y la want t fits =
      reads want y (eval (Convert a y) Value (here t)) fits.1
      (converts_typed (is_array (type_of a)) (type_of a) y a t refl fits.2
      (whole_typed a la (unless_array (type_of a)) t fits.0))

  pre_typed : (d : Step) (a : Exp) (y : Ty) → Typed a → Typed (PreInc d a y)
  pre_typed d a y la want t fits =
      reads want y (eval (PreInc d a y) Value (here t)) fits.1
      (chain P (whole_typed a la Place' t fits.0)
      (λ q hq. chain P
      (both P (loads s p choice temps P r (place_of q))
      (loads_value y (place_of q) (integer_scalar y fits.3)
      (scalar_typed p y (place_of q) (integer_scalar y fits.3) (subst (λ z. StandsAt p z (place_of q)) fits.2 hq.1.stands))))
      (λ old ho. chain P (both P (counts s p choice temps P r t d y old) (counts_typed t d y old fits.3 ho.1))
      (λ v hv. chain P (stores s p choice temps P r (place_of q) v (place_inside p q hq.0) hv.0) (λ _ _. gives P {a = v} hv.1)))))

  post_typed : (d : Step) (a : Exp) (y : Ty) → Typed a → Typed (PostInc d a y)
  post_typed d a y la want t fits =
      reads want y (eval (PostInc d a y) Value (here t)) fits.1
      (chain P (whole_typed a la Place' t fits.0)
      (λ q hq. chain P
      (both P (loads s p choice temps P r (place_of q))
      (loads_value y (place_of q) (integer_scalar y fits.3)
      (scalar_typed p y (place_of q) (integer_scalar y fits.3) (subst (λ z. StandsAt p z (place_of q)) fits.2 hq.1.stands))))
      (λ old ho. chain P (counts s p choice temps P r t d y old)
      (λ v hv. chain P (stores s p choice temps P r (place_of q) v (place_inside p q hq.0) hv) (λ _ _. gives P {a = old} ho.1)))))

  index_typed : (b : Bool) (a k : Exp) (y : Ty) (t : ℕ) (want : Want) → is_array (type_of a) ≡ b → Indexed p b (type_of a) y
      → Leads P (λ c. Inside p c × Has (if b then Place' else Value) (type_of a) c) (eval a (if b then Place' else Value) (here t))
      → Leads P (Has want y)
      (if b
      then (eval a Place' (here t) >>= λ q. eval k Value (here t) >>= λ n. element (here t) (place_of q) (number_of n) >>= λ at.
      wanted want y at)
      else (eval a Value (here t) >>= λ q. eval k Value (here t) >>= λ n. dereference (here t) y q >>= λ at.
      Rattle.sc_world.specs.World.unless (nat_eq (number_of n) 0) reason.Index >>= λ _. wanted want y at))
  index_typed true a k y t want e fits l =
      chain P l
      (λ q hq. chain P (inside k Value t)
      (λ n _. chain P (element_typed t (type_of a) y (place_of q) (number_of n) fits hq.1.stands)
      (λ at h. wants_typed want y at h)))
  index_typed false a k y t want e fits l =
      chain P l
      (λ q hq. chain P (inside k Value t)
      (λ n _. chain P (reaches_typed t y q hq.0)
      (λ at h. chain P (requires P (nat_eq (number_of n) 0) reason.Index) (λ _ _. wants_typed want y at h))))

  mutual
    pub typed : (e : Exp) (want : Want) (t : ℕ) → Fits p want e → Leads P (Has want (type_of e)) (eval e want (here t))
    typed (Comma a b y) want t fits =
        chain P (inside a Value t) (λ _ _. retyped want (type_of b) y (eval b want (here t)) fits.2 (typed b want t fits.1))
    typed (Assign None works a b y) want t fits =
        assign_typed works a b y (λ w n f. typed a w n f) (λ w n f. typed b w n f) want t fits
    typed (Assign (Some o) works a b y) want t fits = update_typed o works a b y (λ w n f. typed a w n f) want t fits
    typed (Cond a b c y) want t fits =
        chain P (inside a Value t)
        (λ x _. either P (is_true x) (retyped want (type_of b) y (eval b want (here t)) fits.4 (typed b want t fits.1))
        (retyped want (type_of c) y (eval c want (here t)) fits.5 (typed c want t fits.2)))
    typed (Binary o a b y) want t fits = binary_typed o a b y (λ w n f. typed a w n f) (λ w n f. typed b w n f) want t fits
    typed (Cast a y) want t fits = conversion_typed a y (λ w n f. typed a w n f) want t fits
    typed (Unary sign.Address a y) want t fits =
        reads want y (eval a Place' (here t)) fits.1
        (weaker P (λ c h. subst (IsValueOf s y) (sym h.pointer) (value_pointer s y (pointer_no_integer y fits.2) (place_of c + 1)))
        (typed a Place' t fits.0))
    typed (Unary sign.Deref a y) want t fits =
        chain P (inside a Value t) (λ q hq. chain P (reaches_typed t y q hq) (λ at h. wants_typed want y at h))
    typed (Unary sign.Not a y) want t fits =
        reads want y (eval (Unary sign.Not a y) Value (here t)) fits.1
        (chain P (inside a Value t)
        (λ x _. gives P {a = truth_cell (here t) y (not (is_true x))} (truth_value t y (not (is_true x)) fits.3)))
    typed (Unary sign.Plus a y) want t fits =
        reads want y (eval (Unary sign.Plus a y) Value (here t)) fits.1
        (chain P (typed a Value t fits.0)
        (λ x hx. gives P {a = signed_as (here t) sign.Plus y x} (signs_typed t sign.Plus (type_of a) y x (ap is_integer fits.2 ∙ fits.3) fits.3 hx)))
    typed (Unary sign.Minus a y) want t fits =
        reads want y (eval (Unary sign.Minus a y) Value (here t)) fits.1
        (chain P (typed a Value t fits.0)
        (λ x hx. gives P {a = signed_as (here t) sign.Minus y x} (signs_typed t sign.Minus (type_of a) y x (ap is_integer fits.2 ∙ fits.3) fits.3 hx)))
    typed (Unary sign.Complement a y) want t fits =
        reads want y (eval (Unary sign.Complement a y) Value (here t)) fits.1
        (chain P (typed a Value t fits.0)
        (λ x hx. gives P {a = signed_as (here t) sign.Complement y x} (signs_typed t sign.Complement (type_of a) y x (ap is_integer fits.2 ∙ fits.3) fits.3 hx)))
    typed (PreInc d a y) want t fits = pre_typed d a y (λ w n f. typed a w n f) want t fits
    typed (PostInc d a y) want t fits = post_typed d a y (λ w n f. typed a w n f) want t fits
    typed (SizeofExpr a n y) want t fits =
        gives P {a = Num (int_bits s.widths y) n} (read_has want y (Num (int_bits s.widths y) n) fits.0 (value_number s y fits.1 n))
    typed (SizeofType n y) want t fits =
        gives P {a = Num (int_bits s.widths y) n} (read_has want y (Num (int_bits s.widths y) n) fits.0 (value_number s y fits.1 n))
    typed (Index a b y) want t fits =
        index_typed (is_array (type_of a)) a b y t want refl fits.3
        (whole_typed a (λ w n f. typed a w n f) (unless_array (type_of a)) t fits.0)
    typed (Call x f es y) want t fits =
        reads want y (eval (Call x f es y) Value (here t)) fits.2
        (chain P (calls_callee s p choice temps P r (is_name f) (eval f) t (λ w. inside f w t))
        (λ _ _. chain P (both P (evaluates_all s p choice temps P r es t) (typed_all es t fits.1))
        (λ vs hs. calls_typed t x f y (site_at p x.token) es vs fits.4 hs.1 hs.0)))
    typed (Field a n true y) want t fits =
        chain P (inside a Value t)
        (λ q hq. chain P (reaches_typed t (target_or_void (type_of a)) q hq)
        (λ at h. chain P (member_typed t (target_or_void (type_of a)) n y at fits.2 (inl h)) (λ k hk. wants_typed want y k hk)))
    typed (Field a n false y) want t fits =
        chain P (typed a Place' t fits.0)
        (λ q hq. chain P (member_typed t (type_of a) n y (place_of q) fits.1 hq.stands) (λ k hk. wants_typed want y k hk))
    typed (Param n y) want t fits = wants_typed want y (location_of p (origin.Param n)) fits.1
    typed (Local n y) want t fits = wants_typed want y (location_of p (origin.Local n)) fits.1
    typed (Global n y) want t fits = wants_typed want y (location_of p (origin.Global n)) fits.1
    typed (Function n b y) want t fits = stub_typed want (origin.Function n) y fits
    typed (Number n y) want t fits =
        gives P {a = Num (int_bits s.widths y) n} (read_has want y (Num (int_bits s.widths y) n) fits.0 (value_number s y fits.1 n))
    typed (Str x y) want t fits = stub_typed want (origin.Literal x.token) y fits
    typed (Convert a y) want t fits = conversion_typed a y (λ w n f. typed a w n f) want t fits
    typed (Temp n y) want t fits = absurd fits
    typed (TempPlace n y) want t fits = absurd fits

    pub typed_all : (es : Exps) (t : ℕ) → FitAll p es → Leads P (HaveTypes es) (eval_all es (here t))
    typed_all NoExps t fits = gives P {a = []} tt
    typed_all (Exps' e es) t fits =
        chain P (typed e Value t fits.0) (λ v hv. chain P (typed_all es t fits.1) (λ vs hs. gives P {a = v ∷ vs} (hv, hs)))
