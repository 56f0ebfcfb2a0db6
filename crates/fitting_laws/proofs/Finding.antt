-- Where what is looked for in a layout is found, and what type it has.
use Rattle.std.proofs.Common.{inl, inr, ◌≡◌, ◌⊎◌, ℕ, zero, suc, ◌+◌, ◌≤◌, ◌<◌, Bool, true, false, ◌&&◌, not, List, [], ◌∷◌, length, refl, sym, ap, subst, ◌∙◌, arith, nat_eq}
use Rattle.std.specs.Prelude.{Option, Some, None, slice_get, slice_index_or, if◌then◌else◌}
use Rattle.std.specs.List.{list_any}
use Rattle.std.proofs.lemmas.Bool.{eqb-true, eq-eqb}
use Rattle.sc_base.specs.declared.pos.Pos.{Pos}
use Rattle.sc_base.specs.declared.pos.NameId.{NameId}
use Rattle.sc_tree.specs.declared.ctype.IntKind.{IntKind}
use Rattle.sc_tree.specs.declared.ctype.IntKind.TheVariants as kind
use Rattle.sc_tree.specs.declared.ctype.OpaqueKind.{OpaqueKind}
use Rattle.sc_tree.specs.declared.ctype.OpaqueKind.TheVariants as opaque
use Rattle.sc_typed.specs.Kinds.{same_kind}
use Rattle.sc_typed.specs.Types.{same_length, same_opaque, same_flag}
use Rattle.sum_rows.specs.declared.path.Step.{Step}
use Rattle.sum_rows.specs.declared.path.Step.TheVariants as step
use Rattle.sc_world.specs.declared.run.Origin.{Origin}
use Rattle.sc_world.specs.declared.run.Origin.TheVariants as origin
use Rattle.sc_world.specs.Tree.{Ty, Void, Bool', Int, Ptr, Array, Struct, Union, Func, Opaque, Tys, NoTypes, Types, same_type, same_types}
use Rattle.sc_world.specs.Source.{Source, Member}
use Rattle.sc_world.specs.Gather.{Found}
use Rattle.sc_world.specs.Layout.{Layout, Location, nowhere, location, is_stub, is_there, has_type, type_is, first_where, part, location_of, or_zero, same_origin, same_step, is_part_of}
use Rattle.sc_world.specs.Objects.{Parts, NoParts, Elements, Members, parts_of, shown_elements, members_of, is_named}
use Rattle.run_laws.specs.Fits.{StandsAt, may_be_stub, IsThere, IsTypedThere, IsStubThere, ElementsFit, MemberFits}
use Rattle.layout_laws.specs.Origins.{IsAmong, at, Has, IsPart, FitsOrigin, HasItsParts, IsRight, IsLaidFor, IsLiteral}
use Rattle.fitting_laws.specs.Typed.{HasMember, HasMemberOf}

pub clash : (b : Bool) → b ≡ true → b ≡ false → ⊥
clash true e f = absurd (cc)
clash false e f = absurd (cc)

pub both_left : (a b : Bool) → a && b ≡ true → a ≡ true
both_left true b h = refl
both_left false b h = absurd (clash false h refl)

pub both_right : (a b : Bool) → a && b ≡ true → b ≡ true
both_right true b h = h
both_right false b h = absurd (clash false h refl)

pub both : (a b : Bool) → a ≡ true → b ≡ true → a && b ≡ true
both true b h g = g
both false b h g = absurd (clash false h refl)

pub number_same : (n : ℕ) → nat_eq n n ≡ true
number_same n = eq-eqb n n refl

pub number_is : (m n : ℕ) → nat_eq m n ≡ true → m ≡ n
number_is m n h = eqb-true m n h

-- A type is itself.

kind_self : (k : IntKind) → same_kind k k ≡ true
kind_self kind.Char = refl
kind_self kind.SChar = refl
kind_self kind.UChar = refl
kind_self kind.Short = refl
kind_self kind.UShort = refl
kind_self kind.Int = refl
kind_self kind.UInt = refl
kind_self kind.Long = refl
kind_self kind.ULong = refl
kind_self kind.LongLong = refl
kind_self kind.ULongLong = refl

opaque_self : (k : OpaqueKind) → same_opaque k k ≡ true
opaque_self opaque.Float = refl
opaque_self opaque.Double = refl
opaque_self opaque.LongDouble = refl
opaque_self opaque.VaList = refl

length_self : (n : Option ℕ) → same_length n n ≡ true
length_self None = refl
length_self (Some n) = number_same n

flag_self : (b : Bool) → same_flag b b ≡ true
flag_self true = refl
flag_self false = refl

mutual
  pub type_self : (t : Ty) → same_type t t ≡ true
  type_self Void = refl
  type_self Bool' = refl
  type_self (Int k) = kind_self k
  type_self (Ptr t) = type_self t
  type_self (Array t n) = both (same_type t t) (same_length n n) (type_self t) (length_self n)
  type_self (Struct n) = number_same n
  type_self (Union n) = number_same n
  type_self (Func t k ts v) =
      both (same_type t t) (same_flag k k && (same_types ts ts && same_flag v v)) (type_self t)
      (both (same_flag k k) (same_types ts ts && same_flag v v) (flag_self k)
      (both (same_types ts ts) (same_flag v v) (types_self ts) (flag_self v)))
  type_self (Opaque k) = opaque_self k

  pub types_self : (ts : Tys) → same_types ts ts ≡ true
  types_self NoTypes = refl
  types_self (Types t ts) = both (same_type t t) (same_types ts ts) (type_self t) (types_self ts)

-- Steps and origins.

step_self : (x : Step) → same_step x x ≡ true
step_self step.Deref = refl
step_self (step.Field n) = number_same n.at
step_self (step.Elem n) = number_same n

step_is : (x y : Step) → same_step x y ≡ true → x ≡ y
step_is step.Deref step.Deref h = refl
step_is step.Deref (step.Field n) h = absurd (clash false h refl)
step_is step.Deref (step.Elem n) h = absurd (clash false h refl)
step_is (step.Field m) step.Deref h = absurd (clash false h refl)
step_is (step.Field m) (step.Field n) h = λ i. step.Field (record { at = number_is m.at n.at h i })
step_is (step.Field m) (step.Elem n) h = absurd (clash false h refl)
step_is (step.Elem m) step.Deref h = absurd (clash false h refl)
step_is (step.Elem m) (step.Field n) h = absurd (clash false h refl)
step_is (step.Elem m) (step.Elem n) h = λ i. step.Elem (number_is m n h i)

part_is : (k : ℕ) (x : Step) (o : Origin) → is_part_of k x o ≡ true → o ≡ origin.Part k x
part_is k x (origin.Param n) h = absurd (clash false h refl)
part_is k x (origin.Global n) h = absurd (clash false h refl)
part_is k x (origin.Local n) h = absurd (clash false h refl)
part_is k x (origin.Literal n) h = absurd (clash false h refl)
part_is k x (origin.Function n) h = absurd (clash false h refl)
part_is k x (origin.Target n) h = absurd (clash false h refl)
part_is k x (origin.Call n) h = absurd (clash false h refl)
part_is k x (origin.Part up y) h = λ i.
    origin.Part (sym (number_is k up (both_left (nat_eq k up) (same_step x y) h)) i)
    (sym (step_is x y (both_right (nat_eq k up) (same_step x y) h)) i)

part_self : (k : ℕ) (x : Step) → is_part_of k x (origin.Part k x) ≡ true
part_self k x = both (nat_eq k k) (same_step x x) (number_same k) (step_self x)

-- what has a type is a location
typed_there : (ls : List Location) (i : ℕ) (t : Ty) → (at ls i).type ≡ Some t → i < length ls
typed_there [] i t e = absurd (none_some e)
  where
    none_some : None ≡ Some t → ⊥
    none_some h = absurd (cc)
typed_there (l ∷ ls) zero t e = omega arith
typed_there (l ∷ ls) (suc i) t e = omega (arith, typed_there ls i t e)

-- The first that passes.

pub first_passes : (test : Location → Bool) (k : ℕ) (ls : List Location) (to : ℕ) → first_where test k ls ≡ Some to
    → (i : ℕ) × (to ≡ k + i) × (i < length ls) × (test (at ls i) ≡ true)
first_passes test k [] to e = absurd (none_is e)
  where
    none_is : None ≡ Some to → ⊥
    none_is h = absurd (cc)
first_passes test k (l ∷ ls) to e = side (test l) refl e (λ d. first_passes test (k + 1) ls to d)
  where
    some_is : (m n : ℕ) → Some m ≡ Some n → m ≡ n
    some_is m n h = ap (λ o. or_zero o) h

    side : (b : Bool) → test l ≡ b → (if b then Some k else first_where test (k + 1) ls) ≡ Some to
        → (first_where test (k + 1) ls ≡ Some to → (i : ℕ) × (to ≡ k + 1 + i) × (i < length ls) × (test (at ls i) ≡ true))
        → (i : ℕ) × (to ≡ k + i) × (i < length (l ∷ ls)) × (test (at (l ∷ ls) i) ≡ true)
    side true h d rest = (0, omega (arith, some_is k to d), omega arith, h)
    side false h d rest = let found = rest d in (suc found.0, omega (arith, found.1), omega (arith, found.2), found.3)

pub first_is : (test : Location → Bool) (k : ℕ) (ls : List Location) (j : ℕ) → j < length ls → test (at ls j) ≡ true
    → (to : ℕ) × (first_where test k ls ≡ Some to)
first_is test k [] j less h = absurd (omega (arith, less))
first_is test k (l ∷ ls) zero less h = (k, λ i. if h i then Some k else first_where test (k + 1) ls)
first_is test k (l ∷ ls) (suc j) less h = side (test l) (first_is test (k + 1) ls j (omega (arith, less)) h)
  where
    side : (b : Bool) → (to : ℕ) × (first_where test (k + 1) ls ≡ Some to)
        → (to : ℕ) × ((if b then Some k else first_where test (k + 1) ls) ≡ Some to)
    side true rest = (k, refl)
    side false rest = rest

-- what is found is a location of that test
pub found_at : (test : Location → Bool) (ls : List Location) (to : ℕ) → first_where test 0 ls ≡ Some to
    → (to < length ls) × (test (at ls to) ≡ true)
found_at test ls to e =
    let h = first_passes test 0 ls to e in
    let same : h.0 ≡ to = omega (arith, h.1) in (
      subst (λ n. n < length ls) same h.2,
      subst (λ n. test (at ls n) ≡ true) same h.3,
    )

module _ (s : Source) (f : Found) (p : Layout) (laid : IsLaidFor s f p.locations) where
  -- Origins that are named.

  pub there : (o : Origin) → same_origin o o ≡ true → Has p.locations o → IsThere p o
  there o self (j, less, e) =
      let first = first_is (λ l. same_origin o l.origin) 0 p.locations j less (subst (λ z. same_origin o z ≡ true) (sym e) self) in
      let found = found_at (λ l. same_origin o l.origin) p.locations first.0 first.1 in
      let same : location_of p o ≡ first.0 = ap or_zero first.1 in (
        subst (λ n. n < length p.locations) (sym same) found.0,
        subst (λ n. same_origin o (location p n).origin ≡ true) (sym same) found.1,
      )

  -- the origin of what was found
  abbrev Tells : Origin → Type 0
  Tells o = (z : Origin) → same_origin o z ≡ true → z ≡ o

  tells_param : (n : ℕ) → Tells (origin.Param n)
  tells_param n (origin.Param m) h = λ i. origin.Param (sym (number_is n m h) i)
  tells_param n (origin.Global m) h = absurd (clash false h refl)
  tells_param n (origin.Local m) h = absurd (clash false h refl)
  tells_param n (origin.Literal m) h = absurd (clash false h refl)
  tells_param n (origin.Function m) h = absurd (clash false h refl)
  tells_param n (origin.Target m) h = absurd (clash false h refl)
  tells_param n (origin.Call m) h = absurd (clash false h refl)
  tells_param n (origin.Part m x) h = absurd (clash false h refl)

  tells_global : (n : ℕ) → Tells (origin.Global n)
  tells_global n (origin.Global m) h = λ i. origin.Global (sym (number_is n m h) i)
  tells_global n (origin.Param m) h = absurd (clash false h refl)
  tells_global n (origin.Local m) h = absurd (clash false h refl)
  tells_global n (origin.Literal m) h = absurd (clash false h refl)
  tells_global n (origin.Function m) h = absurd (clash false h refl)
  tells_global n (origin.Target m) h = absurd (clash false h refl)
  tells_global n (origin.Call m) h = absurd (clash false h refl)
  tells_global n (origin.Part m x) h = absurd (clash false h refl)

  tells_local : (n : ℕ) → Tells (origin.Local n)
  tells_local n (origin.Local m) h = λ i. origin.Local (sym (number_is n m h) i)
  tells_local n (origin.Param m) h = absurd (clash false h refl)
  tells_local n (origin.Global m) h = absurd (clash false h refl)
  tells_local n (origin.Literal m) h = absurd (clash false h refl)
  tells_local n (origin.Function m) h = absurd (clash false h refl)
  tells_local n (origin.Target m) h = absurd (clash false h refl)
  tells_local n (origin.Call m) h = absurd (clash false h refl)
  tells_local n (origin.Part m x) h = absurd (clash false h refl)

  -- a string or a function has no type
  stub_type : (o z : Origin) (y : Option Ty) → IsLiteral o → same_origin o z ≡ true → FitsOrigin s f p.locations y z → y ≡ None
  stub_type (origin.Literal q) (origin.Literal r) y h e fits = fits
  stub_type (origin.Literal q) (origin.Param m) y h e fits = absurd (clash false e refl)
  stub_type (origin.Literal q) (origin.Global m) y h e fits = absurd (clash false e refl)
  stub_type (origin.Literal q) (origin.Local m) y h e fits = absurd (clash false e refl)
  stub_type (origin.Literal q) (origin.Function m) y h e fits = absurd (clash false e refl)
  stub_type (origin.Literal q) (origin.Target m) y h e fits = absurd (clash false e refl)
  stub_type (origin.Literal q) (origin.Call m) y h e fits = absurd (clash false e refl)
  stub_type (origin.Literal q) (origin.Part m x) y h e fits = absurd (clash false e refl)
  stub_type (origin.Function n) (origin.Function m) y h e fits = fits
  stub_type (origin.Function n) (origin.Param m) y h e fits = absurd (clash false e refl)
  stub_type (origin.Function n) (origin.Global m) y h e fits = absurd (clash false e refl)
  stub_type (origin.Function n) (origin.Local m) y h e fits = absurd (clash false e refl)
  stub_type (origin.Function n) (origin.Literal m) y h e fits = absurd (clash false e refl)
  stub_type (origin.Function n) (origin.Target m) y h e fits = absurd (clash false e refl)
  stub_type (origin.Function n) (origin.Call m) y h e fits = absurd (clash false e refl)
  stub_type (origin.Function n) (origin.Part m x) y h e fits = absurd (clash false e refl)
  stub_type (origin.Param n) z y h e fits = absurd h
  stub_type (origin.Global n) z y h e fits = absurd h
  stub_type (origin.Local n) z y h e fits = absurd h
  stub_type (origin.Target n) z y h e fits = absurd h
  stub_type (origin.Call n) z y h e fits = absurd h
  stub_type (origin.Part n x) z y h e fits = absurd h

  typed_as : (y : Option Ty) (t : Ty) → y ≡ Some t → type_is y t ≡ true
  typed_as y t e = subst (λ z. type_is z t ≡ true) (sym e) (type_self t)

  -- what is declared with a type has a location of that type
  declared_there : (o : Origin) (t : Ty) → same_origin o o ≡ true → Tells o → Has p.locations o
      → ((y : Option Ty) → FitsOrigin s f p.locations y o → y ≡ Some t) → IsTypedThere p o t
  declared_there o t self tells has fits =
      let is = there o self has in
      let same = tells (location p (location_of p o)).origin is.1 in (
        is,
        typed_as (location p (location_of p o)).type t
            (fits (location p (location_of p o)).type
            (subst (λ z. FitsOrigin s f p.locations (location p (location_of p o)).type z) same (laid.right (location_of p o) is.0).0)),
      )

  some_same : (t u : Ty) → Some t ≡ Some u → t ≡ u
  some_same t u h = ap (type_or t) h
    where
      type_or : Ty → Option Ty → Ty
      type_or d None = d
      type_or d (Some z) = z

  declared_as : (all : List Ty) (n : ℕ) (t : Ty) → slice_get all n ≡ Some t → (y : Option Ty)
      → ((u : Ty) × (y ≡ Some u) × (slice_get all n ≡ Some u)) → y ≡ Some t
  declared_as all n t e y (u, is, d) = is ∙ (sym d ∙ e)

  pub param_there : (n : ℕ) (t : Ty) → slice_get s.params n ≡ Some t → IsTypedThere p (origin.Param n) t
  param_there n t e =
      declared_there (origin.Param n) t (number_same n) (tells_param n) (laid.params n t e) (declared_as s.params n t e)

  pub local_there : (n : ℕ) (t : Ty) → slice_get s.locals n ≡ Some t → IsTypedThere p (origin.Local n) t
  local_there n t e =
      declared_there (origin.Local n) t (number_same n) (tells_local n) (laid.locals n t e) (declared_as s.locals n t e)

  pub global_there : (n : ℕ) (t : Ty) → slice_get s.globals n ≡ Some t
      → list_any (nat_eq n) f.globals ≡ true → IsTypedThere p (origin.Global n) t
  global_there n t e named =
      declared_there (origin.Global n) t (number_same n) (tells_global n) (laid.globals n t e named) (declared_as s.globals n t e)

  literal_self : (o : Origin) → IsLiteral o → same_origin o o ≡ true
  literal_self (origin.Literal q) h =
      both (nat_eq q.file q.file) (nat_eq q.line q.line && nat_eq q.col q.col) (number_same q.file)
      (both (nat_eq q.line q.line) (nat_eq q.col q.col) (number_same q.line) (number_same q.col))
  literal_self (origin.Function n) h = number_same n.at
  literal_self (origin.Param n) h = absurd h
  literal_self (origin.Global n) h = absurd h
  literal_self (origin.Local n) h = absurd h
  literal_self (origin.Target n) h = absurd h
  literal_self (origin.Call n) h = absurd h
  literal_self (origin.Part n x) h = absurd h

  pub literal_there : (o : Origin) (t : Ty) → IsLiteral o → IsAmong o f.literals → may_be_stub t ≡ true → IsStubThere p o t
  literal_there o t h among may =
      let is = there o (literal_self o h) (laid.literals o among) in
      let none = stub_type o (location p (location_of p o)).origin (location p (location_of p o)).type h is.1
      (laid.right (location_of p o) is.0).0 in
      (is, may, subst (λ y. not (is_there y) ≡ true) (sym none) refl)

  -- Parts.

  -- a part has the type that a part of its whole has
  part_typed : (k : ℕ) (x : Step) (to : ℕ) → part p k x ≡ Some to
      → (u : Ty) × (t : Ty) × ((at p.locations k).type ≡ Some u) × ((at p.locations to).type ≡ Some t) × IsPart (parts_of s u) x t
  part_typed k x to e =
      let found = found_at (λ l. is_part_of k x l.origin) p.locations to e in
      let same = part_is k x (at p.locations to).origin found.1 in
      subst (λ z. FitsOrigin s f p.locations (at p.locations to).type z) same (laid.right to found.0).0

  -- what is of a type that has parts is no stub
  stands_typed : (k : ℕ) (t u : Ty) → StandsAt p t k → (at p.locations k).type ≡ Some u → same_type u t ≡ true
  stands_typed k t u (inl h) e = subst (λ y. type_is y t ≡ true) e h
  stands_typed k t u (inr (less, may, stub)) e =
      absurd (clash false (subst (λ y. not (is_there y) ≡ true) e stub) refl)

  element_type : (u t : Ty) (n : Option ℕ) (k : ℕ) (v : Ty) → same_type u (Array t n) ≡ true → IsPart (parts_of s u) (step.Elem k) v
      → same_type v t ≡ true
  element_type (Array w m) t n k v h (less, e) =
      subst (λ z. same_type z t ≡ true) e (both_left (same_type w t) (same_length m n) h)
  element_type Void t n k v h is = absurd is
  element_type Bool' t n k v h is = absurd is
  element_type (Int i) t n k v h is = absurd is
  element_type (Ptr w) t n k v h is = absurd is
  element_type (Struct m) t n k v h is = absurd is
  element_type (Union m) t n k v h is = absurd is
  element_type (Func w i ts b) t n k v h is = absurd is
  element_type (Opaque i) t n k v h is = absurd is

  pub elements_fit : (t : Ty) (n : Option ℕ) → ElementsFit p (Array t n) t
  elements_fit t n k i to stands e =
      let is = part_typed k (step.Elem i) to e in
      subst (λ y. type_is y t ≡ true) (sym is.3)
      (element_type is.0 t n i is.1 (stands_typed k (Array t n) is.0 stands is.2) is.4)

  -- a location of a struct type
  pub struct_type : (k m : ℕ) (y : Option Ty) → type_is y (Struct m) ≡ true → y ≡ Some (Struct m)
  struct_type k m None h = absurd (clash false h refl)
  struct_type k m (Some (Struct n)) h = λ i. Some (Struct (number_is n m h i))
  struct_type k m (Some Void) h = absurd (clash false h refl)
  struct_type k m (Some Bool') h = absurd (clash false h refl)
  struct_type k m (Some (Int i)) h = absurd (clash false h refl)
  struct_type k m (Some (Ptr w)) h = absurd (clash false h refl)
  struct_type k m (Some (Array w n)) h = absurd (clash false h refl)
  struct_type k m (Some (Union n)) h = absurd (clash false h refl)
  struct_type k m (Some (Func w i ts b)) h = absurd (clash false h refl)
  struct_type k m (Some (Opaque i)) h = absurd (clash false h refl)

  -- a member that was found has the type of the members of its name
  pub member_typed : (k m : ℕ) (n : NameId) (t : Ty) (to : ℕ) → HasMember s m n t → (at p.locations k).type ≡ Some (Struct m)
      → part p k (step.Field n) ≡ Some to → has_type (location p to) t ≡ true
  member_typed k m n t to h is e =
      let typed = part_typed k (step.Field n) to e in
      let whole = some_same typed.0 (Struct m) (sym typed.2 ∙ is) in
      let mine = subst (λ u. IsPart (parts_of s u) (step.Field n) typed.1) whole typed.4 in
      typed_as (at p.locations to).type t (typed.3 ∙ (λ i. Some ((sym mine.3 ∙ h.all mine.0 mine.1 mine.2) i)))

  pub member_fits : (m : ℕ) (n : NameId) (t : Ty) → is_named f n ≡ true → HasMember s m n t → MemberFits p (Struct m) n t
  member_fits m n t named h k (inr (less, may, stub)) = absurd (clash false may refl)
  member_fits m n t named h k (inl stands) =
      let is = struct_type k m (at p.locations k).type stands in
      let less = typed_there p.locations k (Struct m) is in
      let parts = subst (λ y. HasItsParts s f p.locations k y) is (laid.right k less).1 in
      let has = parts h.one.0 n h.one.1 h.one.2 named in
      let first = first_is (λ l. is_part_of k (step.Field n) l.origin) 0 p.locations has.0 has.1
      (subst (λ z. is_part_of k (step.Field n) z ≡ true) (sym has.2) (part_self k (step.Field n))) in
      (first.0, first.1, member_typed k m n t first.0 h is first.1)
