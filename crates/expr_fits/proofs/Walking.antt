-- An expression that passes the test fits the layout.
use Rattle.std.proofs.Common.{◌≡◌, inl, inr, ℕ, zero, suc, ◌+◌, ◌<◌, nat_eq, nat_lt, Bool, true, false, not, ◌&&◌, ◌||◌, List, [], ◌∷◌, length, if◌then◌else◌, refl, sym, ◌∙◌, ap, subst, arith}
use Rattle.std.specs.Prelude.{Option, Some, None, slice_get, slice_index_or}
use Rattle.std.proofs.lemmas.Bool.{and_parts, or_left, or_right, ltb-true, lt-ltb, eqb-true, true≢false}
use Rattle.sc_base.specs.declared.pos.NameId.{NameId}
use Rattle.sc_tree.specs.declared.op.BinaryOp.{BinaryOp}
use Rattle.sc_tree.specs.declared.op.UnaryOp.TheVariants as sign
use Rattle.sum_rows.specs.declared.path.Step.TheVariants as step
use Rattle.sc_world.specs.declared.run.Origin.{Origin}
use Rattle.sc_world.specs.declared.run.Origin.TheVariants as origin
use Rattle.sc_world.specs.Tree.{Ty, is_integer, is_pointer, is_array, target_or_void, same_type, Exp, Comma, Assign, Cond, Binary, Cast, Unary, PreInc, PostInc, SizeofExpr, SizeofType, Index, Call, Field, Param, Local, Global, Function, Number, Str, Convert, Temp, TempPlace, type_of}
use Rattle.sc_world.specs.Layout.{Layout, Location, location, location_of, nowhere, part, has_type, is_stub, same_origin, first_where, is_part_of}
use Rattle.sc_world.specs.Eval.{Want, Value, Place'}
use Rattle.flow_graph.specs.Conditions.{is_plain}
use Rattle.flow_types.specs.Kinds as flow
use Rattle.run_laws.specs.Fits.{TypesMeet, operands_fit, in_one_type, gives_truth, converts_to, is_scalar, may_be_stub, unless_array, if_scalar, IsRead, IsThere, IsTypedThere, IsStubThere, StandsAt, ElementsFit, Indexed, MemberFits}
use Rattle.expr_fits.specs.declared.around.Around.{Around}
use Rattle.expr_fits.specs.Around.{layout_of, source_of}
use Rattle.expr_fits.specs.Fits.{Walkable, constants_fit}
use Rattle.expr_fits.specs.Here as here
use Rattle.expr_fits.proofs.Below.{below}
use Rattle.expr_fits.proofs.Same.{types_one}

-- Types.

read : (want : Want) → here.is_read want ≡ true → IsRead want
read Value h = tt
read Place' h = absurd (true≢false (sym h))

-- what is so unless b is so where b is
unless : (b c : Bool) → not b || c ≡ true → b ≡ true → c ≡ true
unless true c h is = h
unless false c h is = absurd (true≢false (sym is))

or_so : (b c : Bool) → b || c ≡ true → b ≡ false → c ≡ true
or_so true c h is = absurd (true≢false is)
or_so false c h is = h

both_true : (a b : Bool) → a ≡ true → b ≡ true → a && b ≡ true
both_true true b h k = k
both_true false b h k = h

meets : (o : BinaryOp) (u v t : Ty) → here.types_meet o u v t ≡ true → TypesMeet o u v t
meets o u v t h =
    let parts = and_parts (not (in_one_type o && is_integer u) || same_type u v) (gives_truth o || same_type t u) h in
    record {
      same = λ one whole. types_one u v (unless (in_one_type o && is_integer u) (same_type u v) parts.0 (both_true (in_one_type o) (is_integer u) one whole));
      keeps = λ none. types_one t u (or_so (gives_truth o) (same_type t u) parts.1 none);
    }

-- Locations.

typed_in : (ls : List Location) (at : ℕ) (t : Ty) → has_type (slice_index_or ls at nowhere) t ≡ true → at < length ls
typed_in [] at t h = absurd (true≢false (sym h))
typed_in (l ∷ ls) zero t h = omega arith
typed_in (l ∷ ls) (suc at) t h = omega (arith, typed_in ls at t h)

-- the first that passes
found_in : (test : Location → Bool) (k : ℕ) (ls : List Location) (to : ℕ) → first_where test k ls ≡ Some to
    → (i : ℕ) × (to ≡ k + i) × (i < length ls) × (test (slice_index_or ls i nowhere) ≡ true)
found_in test k [] to e = absurd (cc)
found_in test k (l ∷ ls) to e = side (test l) refl (λ h. found_in test (k + 1) ls to h) e
  where
    side : (b : Bool) → test l ≡ b
        → (first_where test (k + 1) ls ≡ Some to → (i : ℕ) × (to ≡ k + 1 + i) × (i < length ls) × (test (slice_index_or ls i nowhere) ≡ true))
        → (if b then Some k else first_where test (k + 1) ls) ≡ Some to → (i : ℕ) × (to ≡ k + i) × (i < length (l ∷ ls)) × (test (slice_index_or (l ∷ ls) i nowhere) ≡ true)
    side true is rest e =
        let same : k ≡ to = cc in
        (0, omega (arith, same), omega arith, is)
    side false is rest e =
        let h = rest e in
        (suc h.0, omega (arith, h.1), omega (arith, h.2), h.3)

module _ (p : Layout) where
  part_there : (up n at : ℕ) → part p up (step.Elem n) ≡ Some at
      → (at < length p.locations) × (is_part_of up (step.Elem n) (location p at).origin ≡ true)
  part_there up n at e =
      let h = found_in (λ l. is_part_of up (step.Elem n) l.origin) 0 p.locations at e in
      let same : h.0 ≡ at = omega (arith, h.1) in
      subst (λ i. (i < length p.locations) × (is_part_of up (step.Elem n) (location p i).origin ≡ true)) same (h.2, h.3)

  there : (o : Origin) → here.is_there p o ≡ true → IsThere p o
  there o h =
      let parts = and_parts (nat_lt (location_of p o) (length p.locations)) (same_origin o (location p (location_of p o)).origin) h in
      (ltb-true (location_of p o) (length p.locations) parts.0, parts.1)

  typed_there : (o : Origin) (t : Ty) → here.is_typed_there p o t ≡ true → IsTypedThere p o t
  typed_there o t h =
      let parts = and_parts (here.is_there p o) (has_type (location p (location_of p o)) t) h in
      (there o parts.0, parts.1)

  stub_there : (o : Origin) (t : Ty) → here.is_stub_there p o t ≡ true → IsStubThere p o t
  stub_there o t h =
      let parts = and_parts (here.is_there p o) (may_be_stub t && is_stub (location p (location_of p o))) h in
      let stub = and_parts (may_be_stub t) (is_stub (location p (location_of p o))) parts.1 in
      (there o parts.0, stub.0, stub.1)

  stands : (u : Ty) (at : ℕ) → StandsAt p u at → here.stands_at p u at ≡ true
  stands u at (inl h) =
      or_left (has_type (location p at) u) (nat_lt at (length p.locations) && (may_be_stub u && is_stub (location p at))) h
  stands u at (inr h) =
      or_right (has_type (location p at) u) (nat_lt at (length p.locations) && (may_be_stub u && is_stub (location p at)))
      (both_true (nat_lt at (length p.locations)) (may_be_stub u && is_stub (location p at)) (lt-ltb at (length p.locations) h.0)
      (both_true (may_be_stub u) (is_stub (location p at)) h.1 h.2))

  inside : (u : Ty) (at : ℕ) → StandsAt p u at → at < length p.locations
  inside u at (inl h) = typed_in p.locations at u h
  inside u at (inr h) = h.0

  has_there : (to : Option ℕ) (t : Ty) → here.has_type_there p to t ≡ true
      → (at : ℕ) × (to ≡ Some at) × (has_type (location p at) t ≡ true)
  has_there None t h = absurd (true≢false (sym h))
  has_there (Some at) t h = (at, refl, h)

  members : (u : Ty) (n : NameId) (t : Ty) → here.members_fit p u n t ≡ true → MemberFits p u n t
  members u n t h at is =
      has_there (part p at (step.Field n)) t
      (unless (here.stands_at p u at) (here.has_type_there p (part p at (step.Field n)) t)
      (below (here.member_fits p u n t) (length p.locations) at h (inside u at is)) (stands u at is))

  element_of : (u : Ty) (at k : ℕ) (o : Origin) → is_part_of at (step.Elem k) o ≡ true → here.stands_at p u at ≡ true
      → here.is_element_of p u o ≡ true
  element_of u at k (origin.Part up (step.Elem n)) h is =
      subst (λ i. here.stands_at p u i ≡ true) (eqb-true at up (and_parts (nat_eq at up) (nat_eq k n) h).0) is
  element_of u at k (origin.Part up step.Deref) h is = absurd (true≢false (sym (and_parts (nat_eq at up) false h).1))
  element_of u at k (origin.Part up (step.Field n)) h is = absurd (true≢false (sym (and_parts (nat_eq at up) false h).1))
  element_of u at k (origin.Param n) h is = absurd (true≢false (sym h))
  element_of u at k (origin.Global n) h is = absurd (true≢false (sym h))
  element_of u at k (origin.Local n) h is = absurd (true≢false (sym h))
  element_of u at k (origin.Literal n) h is = absurd (true≢false (sym h))
  element_of u at k (origin.Function n) h is = absurd (true≢false (sym h))
  element_of u at k (origin.Target n) h is = absurd (true≢false (sym h))
  element_of u at k (origin.Call n) h is = absurd (true≢false (sym h))

  elements : (u t : Ty) → here.elements_fit p u t ≡ true → ElementsFit p u t
  elements u t h at k to is e =
      let found = part_there at k to e in
      unless (here.is_element_of p u (location p to).origin) (has_type (location p to) t)
      (below (here.element_fits p u t) (length p.locations) to h found.0)
      (element_of u at k (location p to).origin found.1 (stands u at is))

  indexed : (array : Bool) (u t : Ty) → here.indexed_fits p array u t ≡ true → Indexed p array u t
  indexed true u t h = elements u t h
  indexed false u t h = h

  -- Expressions.

  reads_and : (want : Want) (b : Bool) → here.is_read want && b ≡ true → IsRead want × (b ≡ true)
  reads_and want b h = let parts = and_parts (here.is_read want) b h in (read want parts.0, parts.1)

  same_and : (u t : Ty) (b : Bool) → same_type u t && b ≡ true → (u ≡ t) × (b ≡ true)
  same_and u t b h = let parts = and_parts (same_type u t) b h in (types_one u t parts.0, parts.1)

  counts : (want : Want) (u t : Ty) → here.count_fits want u t ≡ true → IsRead want × (u ≡ t) × (is_integer t ≡ true)
  counts want u t h =
      let parts = reads_and want (same_type u t && is_integer t) h in
      let types = same_and u t (is_integer t) parts.1 in
      (parts.0, types.0, types.1)

  -- what temps keep
  value_kept : (x : Option flow.Kind) (t : Ty) → here.is_kept_as x Value t ≡ true → x ≡ Some (flow.ValueOf t)
  value_kept None t h = absurd (true≢false (sym h))
  value_kept (Some (flow.ValueOf u)) t h = ap (λ z. Some (flow.ValueOf z)) (types_one u t h)
  value_kept (Some (flow.PlaceOf u)) t h = absurd (true≢false (sym h))

  place_kept : (x : Option flow.Kind) (t : Ty) → here.is_kept_as x Place' t ≡ true → x ≡ Some (flow.PlaceOf t)
  place_kept None t h = absurd (true≢false (sym h))
  place_kept (Some (flow.ValueOf u)) t h = absurd (true≢false (sym h))
  place_kept (Some (flow.PlaceOf u)) t h = ap (λ z. Some (flow.PlaceOf z)) (types_one u t h)

  module _ (k : flow.Kinds) where
    pub fits : (want : Want) (e : Exp) → here.fits_over p k.temps want e ≡ true → flow.FitsOver k p want e
    fits want (Comma a b t) h =
        let x = and_parts (here.fits_over p k.temps Value a) (here.fits_over p k.temps want b && same_type (type_of b) t) h in
        let y = and_parts (here.fits_over p k.temps want b) (same_type (type_of b) t) x.1 in
        (fits Value a x.0, fits want b y.0, types_one (type_of b) t y.1)
    fits want (Assign None w a b t) h =
        let x = and_parts (here.fits_over p k.temps Place' a) (here.fits_over p k.temps (if_scalar t) b && here.assign_fits None w (type_of a) (type_of b) t) h in
        let y = and_parts (here.fits_over p k.temps (if_scalar t) b) (here.assign_fits None w (type_of a) (type_of b) t) x.1 in
        let z = same_and (type_of a) t (same_type (type_of b) t) y.1 in
        (fits Place' a x.0, fits (if_scalar t) b y.0, z.0, types_one (type_of b) t z.1)
    fits want (Assign (Some o) w a b t) h =
        let u = type_of a in
        let v = type_of b in
        let x = and_parts (here.fits_over p k.temps Place' a) (here.fits_over p k.temps Value b && here.assign_fits (Some o) w u v t) h in
        let y = and_parts (here.fits_over p k.temps Value b) (here.assign_fits (Some o) w u v t) x.1 in
        let z = same_and u t (is_integer t && (is_integer w && (is_integer v && here.types_meet o w v w))) y.1 in
        let i = and_parts (is_integer t) (is_integer w && (is_integer v && here.types_meet o w v w)) z.1 in
        let j = and_parts (is_integer w) (is_integer v && here.types_meet o w v w) i.1 in
        let l = and_parts (is_integer v) (here.types_meet o w v w) j.1 in
        (fits Place' a x.0, fits Value b y.0, z.0, i.0, j.0, l.0, meets o w v w l.1)
    fits want (Cond a b c t) h = absurd (true≢false (sym h))
    fits want (Binary o a b t) h =
        let u = type_of a in
        let v = type_of b in
        let x = and_parts (here.fits_over p k.temps Value a) (here.fits_over p k.temps Value b && (here.is_read want && here.binary_fits o u v t)) h in
        let y = and_parts (here.fits_over p k.temps Value b) (here.is_read want && here.binary_fits o u v t) x.1 in
        let z = reads_and want (here.binary_fits o u v t) y.1 in
        let i = and_parts (is_integer t) (operands_fit o u v && here.types_meet o u v t) z.1 in
        let j = and_parts (operands_fit o u v) (here.types_meet o u v t) i.1 in
        (fits Value a x.0, fits Value b y.0, z.0, i.0, j.0, meets o u v t j.1)
    fits want (Cast a t) h =
        let x = and_parts (here.fits_over p k.temps (unless_array (type_of a)) a) (here.conversion_fits want (type_of a) t) h in
        let y = reads_and want (converts_to (type_of a) t) x.1 in
        (fits (unless_array (type_of a)) a x.0, y.0, y.1)
    fits want (Unary sign.Address a t) h =
        let x = and_parts (here.fits_over p k.temps Place' a) (here.unary_fits sign.Address want (type_of a) t) h in
        let y = reads_and want (is_pointer t) x.1 in
        (fits Place' a x.0, y.0, y.1)
    fits want (Unary sign.Deref a t) h =
        let x = and_parts (here.fits_over p k.temps Value a) (is_pointer (type_of a)) h in
        (fits Value a x.0, x.1)
    fits want (Unary sign.Not a t) h =
        let x = and_parts (here.fits_over p k.temps Value a) (here.unary_fits sign.Not want (type_of a) t) h in
        let y = reads_and want (is_scalar (type_of a) && is_integer t) x.1 in
        let z = and_parts (is_scalar (type_of a)) (is_integer t) y.1 in
        (fits Value a x.0, y.0, z.0, z.1)
    fits want (Unary sign.Plus a t) h =
        let x = and_parts (here.fits_over p k.temps Value a) (here.count_fits want (type_of a) t) h in
        let y = counts want (type_of a) t x.1 in
        (fits Value a x.0, y.0, y.1, y.2)
    fits want (Unary sign.Minus a t) h =
        let x = and_parts (here.fits_over p k.temps Value a) (here.count_fits want (type_of a) t) h in
        let y = counts want (type_of a) t x.1 in
        (fits Value a x.0, y.0, y.1, y.2)
    fits want (Unary sign.Complement a t) h =
        let x = and_parts (here.fits_over p k.temps Value a) (here.count_fits want (type_of a) t) h in
        let y = counts want (type_of a) t x.1 in
        (fits Value a x.0, y.0, y.1, y.2)
    fits want (PreInc d a t) h =
        let x = and_parts (here.fits_over p k.temps Place' a) (here.count_fits want (type_of a) t) h in
        let y = counts want (type_of a) t x.1 in
        (fits Place' a x.0, y.0, y.1, y.2)
    fits want (PostInc d a t) h =
        let x = and_parts (here.fits_over p k.temps Place' a) (here.count_fits want (type_of a) t) h in
        let y = counts want (type_of a) t x.1 in
        (fits Place' a x.0, y.0, y.1, y.2)
    fits want (SizeofExpr a n t) h = reads_and want (is_integer t) h
    fits want (SizeofType n t) h = reads_and want (is_integer t) h
    fits want (Index a b t) h =
        let u = type_of a in
        let x = and_parts (here.fits_over p k.temps (unless_array u) a)
        (here.fits_over p k.temps Value b && (is_integer (type_of b) && here.indexed_fits p (is_array u) u t)) h in
        let y = and_parts (here.fits_over p k.temps Value b) (is_integer (type_of b) && here.indexed_fits p (is_array u) u t) x.1 in
        let z = and_parts (is_integer (type_of b)) (here.indexed_fits p (is_array u) u t) y.1 in
        (fits (unless_array u) a x.0, fits Value b y.0, z.0, indexed (is_array u) u t z.1)
    fits want (Call x f es t) h = absurd (true≢false (sym h))
    fits want (Field a n true t) h =
        let u = type_of a in
        let x = and_parts (here.fits_over p k.temps Value a) (here.members_behind_fit p u n t) h in
        let y = and_parts (is_pointer u) (here.members_fit p (target_or_void u) n t) x.1 in
        (fits Value a x.0, y.0, members (target_or_void u) n t y.1)
    fits want (Field a n false t) h =
        let x = and_parts (here.fits_over p k.temps Place' a) (here.members_fit p (type_of a) n t) h in
        (fits Place' a x.0, members (type_of a) n t x.1)
    fits want (Param n t) h = typed_there (origin.Param n) t h
    fits want (Local n t) h = typed_there (origin.Local n) t h
    fits want (Global n t) h = typed_there (origin.Global n) t h
    fits want (Function n b t) h = stub_there (origin.Function n) t h
    fits want (Number n t) h = reads_and want (is_integer t) h
    fits want (Str x t) h = stub_there (origin.Literal x.token) t h
    fits want (Convert a t) h =
        let x = and_parts (here.fits_over p k.temps (unless_array (type_of a)) a) (here.conversion_fits want (type_of a) t) h in
        let y = reads_and want (converts_to (type_of a) t) x.1 in
        (fits (unless_array (type_of a)) a x.0, y.0, y.1)
    fits want (Temp n t) h = let parts = reads_and want (here.keeps k.temps n Value t) h in (parts.0, value_kept (slice_get k.temps n) t parts.1)
    fits want (TempPlace n t) h = place_kept (slice_get k.temps n) t h

pub can_walk : (a : Around) (ks : List flow.Kind) (want : Want) (e : Exp)
    → is_plain e && (constants_fit (source_of a) e && here.fits_over (layout_of a) ks want e) ≡ true → Walkable a ks want e
can_walk a ks want e h =
    let x = and_parts (is_plain e) (constants_fit (source_of a) e && here.fits_over (layout_of a) ks want e) h in
    let y = and_parts (constants_fit (source_of a) e) (here.fits_over (layout_of a) ks want e) x.1 in
    record {
      fits = λ k same. fits (layout_of a) k want e (subst (λ z. here.fits_over (layout_of a) z want e ≡ true) (sym same) y.1);
      plain = x.0;
      constants = y.0;
    }

-- the same in the words of the code, which looks into p: x, y and z are what its three tests answer
pub walks_by : (a : Around) (p : Layout) (ks : List flow.Kind) (want : Want) (e : Exp) (x y z : Bool) → p ≡ layout_of a → x ≡ is_plain e → x ≡ true
    → y ≡ constants_fit (source_of a) e → y ≡ true → z ≡ here.fits_over p ks want e → z ≡ true → Walkable a ks want e
walks_by a p ks want e x y z is plain plain_so constants constants_so fit fit_so =
    record {
      fits = λ k same.
          fits (layout_of a) k want e
          (subst (λ l. here.fits_over l k.temps want e ≡ true) is (subst (λ w. here.fits_over p w want e ≡ true) (sym same) (sym fit ∙ fit_so)));
      plain = sym plain ∙ plain_so;
      constants = sym constants ∙ constants_so;
    }
