-- What the tests of locations say: what is tested at each location holds of all.
use Rattle.std.proofs.Common.{◌≡◌, inl, inr, ℕ, zero, suc, ◌+◌, ◌<◌, nat_eq, nat_lt, Bool, true, false, ◌&&◌, List, [], ◌∷◌, length, if◌then◌else◌, refl, sym, subst, arith}
use Rattle.std.specs.Prelude.{Option, Some, None, slice_index_or}
use Rattle.std.proofs.lemmas.Bool.{and_parts, and_from, or_left, or_right, ltb-true, lt-ltb, eqb-true, true≢false}
use Rattle.sc_base.specs.declared.pos.NameId.{NameId}
use Rattle.sum_rows.specs.declared.path.Step.TheVariants as step
use Rattle.sc_world.specs.declared.run.Origin.{Origin}
use Rattle.sc_world.specs.declared.run.Origin.TheVariants as origin
use Rattle.sc_world.specs.Tree.{Ty}
use Rattle.sc_world.specs.Layout.{Layout, Location, location, location_of, nowhere, part, has_type, is_stub, same_origin, first_where, is_part_of}
use Rattle.run_laws.specs.Fits.{may_be_stub, IsThere, IsTypedThere, IsStubThere, StandsAt, ElementsFit, Indexed, MemberFits}
use Rattle.expr_fits.specs.Here as here
use Rattle.expr_fits.proofs.Below.{below}
use Rattle.function_fits.proofs.Types.{unless}

typed_in : (ls : List Location) (at : ℕ) (t : Ty) → has_type (slice_index_or ls at nowhere) t ≡ true → at < length ls
typed_in [] at t h = absurd (true≢false (sym h))
typed_in (l ∷ ls) zero t h = omega arith
typed_in (l ∷ ls) (suc at) t h = omega (arith, typed_in ls at t h)

-- the first that passes
found_in : (test : Location → Bool) (k : ℕ) (ls : List Location) (to : ℕ) → first_where test k ls ≡ Some to
    → (i : ℕ) × (to ≡ k + i) × (i < length ls) × (test (slice_index_or ls i nowhere) ≡ true)
found_in test k [] to e = absurd (cc)
found_in test k (l ∷ ls) to e = side (test l) refl (λ h. found_in test (k + 1) ls to h) e
  where
    side : (b : Bool) → test l ≡ b
        → (first_where test (k + 1) ls ≡ Some to → (i : ℕ) × (to ≡ k + 1 + i) × (i < length ls) × (test (slice_index_or ls i nowhere) ≡ true))
        → (if b then Some k else first_where test (k + 1) ls) ≡ Some to → (i : ℕ) × (to ≡ k + i) × (i < length (l ∷ ls)) × (test (slice_index_or (l ∷ ls) i nowhere) ≡ true)
    side true is rest e =
        let same : k ≡ to = cc in
        (0, omega (arith, same), omega arith, is)
    side false is rest e =
        let h = rest e in
        (suc h.0, omega (arith, h.1), omega (arith, h.2), h.3)

module _ (p : Layout) where
  part_there : (up n at : ℕ) → part p up (step.Elem n) ≡ Some at
      → (at < length p.locations) × (is_part_of up (step.Elem n) (location p at).origin ≡ true)
  part_there up n at e =
      let h = found_in (λ l. is_part_of up (step.Elem n) l.origin) 0 p.locations at e in
      let same : h.0 ≡ at = omega (arith, h.1) in
      subst (λ i. (i < length p.locations) × (is_part_of up (step.Elem n) (location p i).origin ≡ true)) same (h.2, h.3)

  pub there : (o : Origin) → here.is_there p o ≡ true → IsThere p o
  there o h =
      let parts = and_parts (nat_lt (location_of p o) (length p.locations)) (same_origin o (location p (location_of p o)).origin) h in
      (ltb-true (location_of p o) (length p.locations) parts.0, parts.1)

  pub typed_there : (o : Origin) (t : Ty) → here.is_typed_there p o t ≡ true → IsTypedThere p o t
  typed_there o t h =
      let parts = and_parts (here.is_there p o) (has_type (location p (location_of p o)) t) h in
      (there o parts.0, parts.1)

  pub stub_there : (o : Origin) (t : Ty) → here.is_stub_there p o t ≡ true → IsStubThere p o t
  stub_there o t h =
      let parts = and_parts (here.is_there p o) (may_be_stub t && is_stub (location p (location_of p o))) h in
      let stub = and_parts (may_be_stub t) (is_stub (location p (location_of p o))) parts.1 in
      (there o parts.0, stub.0, stub.1)

  stands : (u : Ty) (at : ℕ) → StandsAt p u at → here.stands_at p u at ≡ true
  stands u at (inl h) =
      or_left (has_type (location p at) u) (nat_lt at (length p.locations) && (may_be_stub u && is_stub (location p at))) h
  stands u at (inr h) =
      or_right (has_type (location p at) u) (nat_lt at (length p.locations) && (may_be_stub u && is_stub (location p at)))
      (and_from (nat_lt at (length p.locations)) (may_be_stub u && is_stub (location p at)) (lt-ltb at (length p.locations) h.0)
      (and_from (may_be_stub u) (is_stub (location p at)) h.1 h.2))

  inside : (u : Ty) (at : ℕ) → StandsAt p u at → at < length p.locations
  inside u at (inl h) = typed_in p.locations at u h
  inside u at (inr h) = h.0

  has_there : (to : Option ℕ) (t : Ty) → here.has_type_there p to t ≡ true
      → (at : ℕ) × (to ≡ Some at) × (has_type (location p at) t ≡ true)
  has_there None t h = absurd (true≢false (sym h))
  has_there (Some at) t h = (at, refl, h)

  pub members : (u : Ty) (n : NameId) (t : Ty) → here.members_fit p u n t ≡ true → MemberFits p u n t
  members u n t h at is =
      has_there (part p at (step.Field n)) t
      (unless (here.stands_at p u at) (here.has_type_there p (part p at (step.Field n)) t)
      (below (here.member_fits p u n t) (length p.locations) at h (inside u at is)) (stands u at is))

  element_of : (u : Ty) (at k : ℕ) (o : Origin) → is_part_of at (step.Elem k) o ≡ true → here.stands_at p u at ≡ true
      → here.is_element_of p u o ≡ true
  element_of u at k (origin.Part up (step.Elem n)) h is =
      subst (λ i. here.stands_at p u i ≡ true) (eqb-true at up (and_parts (nat_eq at up) (nat_eq k n) h).0) is
  element_of u at k (origin.Part up step.Deref) h is = absurd (true≢false (sym (and_parts (nat_eq at up) false h).1))
  element_of u at k (origin.Part up (step.Field n)) h is = absurd (true≢false (sym (and_parts (nat_eq at up) false h).1))
  element_of u at k (origin.Param n) h is = absurd (true≢false (sym h))
  element_of u at k (origin.Global n) h is = absurd (true≢false (sym h))
  element_of u at k (origin.Local n) h is = absurd (true≢false (sym h))
  element_of u at k (origin.Literal n) h is = absurd (true≢false (sym h))
  element_of u at k (origin.Function n) h is = absurd (true≢false (sym h))
  element_of u at k (origin.Target n) h is = absurd (true≢false (sym h))
  element_of u at k (origin.Call n) h is = absurd (true≢false (sym h))

  elements : (u t : Ty) → here.elements_fit p u t ≡ true → ElementsFit p u t
  elements u t h at k to is e =
      let found = part_there at k to e in
      unless (here.is_element_of p u (location p to).origin) (has_type (location p to) t)
      (below (here.element_fits p u t) (length p.locations) to h found.0)
      (element_of u at k (location p to).origin found.1 (stands u at is))

  pub indexed : (array : Bool) (u t : Ty) → here.indexed_fits p array u t ≡ true → Indexed p array u t
  indexed true u t h = elements u t h
  indexed false u t h = h
