-- The texts of locations, with names that come later and without them: a text reads the names of parameters, globals and
-- locals, and those of members.
use Rattle.std.proofs.Common.{◌≡◌, ℕ, zero, suc, ◌<◌, List, [], ◌∷◌, length, refl, sym, subst, ⊎_elim}
use Rattle.std.proofs.lemmas.Bool.{cases_lt}
use Rattle.std.proofs.lemmas.List.{get_or_past}
use Rattle.std.specs.Prelude.{false, Option, Some, slice_index_or}
use Rattle.sc_base.specs.declared.pos.NameId.{NameId}
use Rattle.sum_rows.specs.declared.path.Step.{Step}
use Rattle.sum_rows.specs.declared.path.Step.TheVariants as step
use Rattle.sc_world.specs.declared.run.Origin.{Origin}
use Rattle.sc_world.specs.declared.run.Origin.TheVariants as origin
use Rattle.sc_world.specs.Tree.{Ty, Void, Bool', Int, Ptr, Array, Struct, Union, Func, Opaque}
use Rattle.sc_world.specs.Source.{Source, Struct as StructOf, Member}
use Rattle.sc_world.specs.Gather.{Found}
use Rattle.sc_world.specs.Layout.{Layout, Location, location, nowhere}
use Rattle.sc_world.specs.Objects.{parts_of, members_of}
use Rattle.sc_world.specs.Paths.{Texts, Spelled, spelled, field_text, named_at, step_text, spelled_from, spelled_by, text_at}
use Rattle.layout_laws.specs.Origins.{IsAmong, IsPart, FitsOrigin, IsLaidFor}
use Rattle.source_laws.specs.Named.{IsFront, texts_with, IsBelow, NamedBelow, MembersBelow, StructsBelow, AllBelow}
use Rattle.source_laws.proofs.Names.{text_same}

-- Names of locations.

module _ (count : ℕ) where
  abbrev pub OriginBelow : Origin → Type 0
  OriginBelow (origin.Part at (step.Field n)) = IsBelow count n
  OriginBelow _ = Unit {0}

  among : (x : Member) (ms : List Member) → IsAmong x ms → MembersBelow count ms → NamedBelow count x.name
  among x [] h below = absurd h
  among x (m ∷ ms) h below =
      ⊎_elim (λ e. let P : Member → Type 0 = λ y. NamedBelow count y.name in subst P e below.0) (λ later. among x ms later below.1) h

  members_at : (ss : List StructOf) (n : ℕ) → StructsBelow count ss
      → MembersBelow count (slice_index_or ss n (record { union = false; members = [] })).members
  members_at [] n below = tt
  members_at (s ∷ ss) zero below = below.0
  members_at (s ∷ ss) (suc n) below = members_at ss n below.1

  named : (x : Member) (n : NameId) → x.name ≡ Some n → NamedBelow count x.name → IsBelow count n
  named x n e below = let P : Option NameId → Type 0 = NamedBelow count in subst P e below

  part_below : (s : Source) → StructsBelow count s.structs → (u t : Ty) (n : NameId) → IsPart (parts_of s u) (step.Field n) t → IsBelow count n
  part_below s below (Struct m) t n h = named h.0 n h.2 (among h.0 (members_of s m) h.1 (members_at s.structs m below))
  part_below s below (Array v k) t n h = absurd h
  part_below s below Void t n h = absurd h
  part_below s below Bool' t n h = absurd h
  part_below s below (Int k) t n h = absurd h
  part_below s below (Ptr v) t n h = absurd h
  part_below s below (Union m) t n h = absurd h
  part_below s below (Func r known ts v) t n h = absurd h
  part_below s below (Opaque k) t n h = absurd h

  fits_below : (s : Source) (f : Found) → StructsBelow count s.structs → (ls : List Location) (y : Option Ty) (o : Origin) → FitsOrigin s f ls y o → OriginBelow o
  fits_below s f below ls y (origin.Part k (step.Field n)) h = part_below s below h.0 h.1 n h.4
  fits_below s f below ls y (origin.Part k (step.Elem n)) h = tt
  fits_below s f below ls y (origin.Part k step.Deref) h = tt
  fits_below s f below ls y (origin.Param n) h = tt
  fits_below s f below ls y (origin.Global n) h = tt
  fits_below s f below ls y (origin.Local n) h = tt
  fits_below s f below ls y (origin.Literal p) h = tt
  fits_below s f below ls y (origin.Function n) h = tt
  fits_below s f below ls y (origin.Target n) h = tt
  fits_below s f below ls y (origin.Call n) h = tt

  -- each location of a layout names a member that is there
  pub each_below : (s : Source) (f : Found) → StructsBelow count s.structs → (p : Layout) → IsLaidFor s f p.locations
      → (i : ℕ) → OriginBelow (location p i).origin
  each_below s f below p right i =
      ⊎_elim (λ low. fits_below s f below p.locations (location p i).type (location p i).origin (right.right i low).0)
      (λ past. let P : Location → Type 0 = λ l. OriginBelow l.origin in
      subst P (sym (get_or_past p.locations i nowhere past)) tt)
      (cases_lt i (length p.locations))

  listed : (ns : List NameId) (k : ℕ) → 0 < count → AllBelow count ns → IsBelow count (slice_index_or ns k (record { at = 0 }))
  listed [] k some below = some
  listed (n ∷ ns) zero some below = below.0
  listed (n ∷ ns) (suc k) some below = listed ns k some below.1

-- Texts.

module _ (old new : List (List ℕ)) (front : IsFront old new) (params globals locals : List NameId) (some : 0 < length old)
    (params_below : AllBelow (length old) params) (globals_below : AllBelow (length old) globals) (locals_below : AllBelow (length old) locals)
    (p : Layout) (each : (i : ℕ) → OriginBelow (length old) (location p i).origin) where
  abbrev before : Texts
  before = texts_with params globals locals old p

  abbrev after : Texts
  after = texts_with params globals locals new p

  named_same : (ns : List NameId) (k : ℕ) → AllBelow (length old) ns → named_at before ns k ≡ named_at after ns k
  named_same ns k below = λ i. spelled (text_same old new front (slice_index_or ns k (record { at = 0 })).at (listed (length old) ns k some below) i)

  part_same : (x : Step) (at : ℕ) → OriginBelow (length old) (origin.Part at x) → (y z : Spelled) → y ≡ z → step_text old x y ≡ step_text new x z
  part_same (step.Field n) at below y z e = λ i. spelled (field_text (e i).of_target (e i).text (text_same old new front n.at below i))
  part_same (step.Elem k) at below y z e = λ i. step_text old (step.Elem k) (e i)
  part_same step.Deref at below y z e = λ i. step_text old step.Deref (e i)

  from_same : (up up' : ℕ → Spelled) → ((k : ℕ) → up k ≡ up' k) → (o : Origin) → OriginBelow (length old) o
      → spelled_from before up o ≡ spelled_from after up' o
  from_same up up' e (origin.Param n) below = named_same params n params_below
  from_same up up' e (origin.Global n) below = named_same globals n globals_below
  from_same up up' e (origin.Local n) below = named_same locals n locals_below
  from_same up up' e (origin.Literal q) below = refl
  from_same up up' e (origin.Function n) below = refl
  from_same up up' e (origin.Call k) below = refl
  from_same up up' e (origin.Target at) below = λ i. step_text old step.Deref (e at i)
  from_same up up' e (origin.Part at x) below = part_same x at below (up at) (up' at) (e at)

  by_same : (fuel at : ℕ) → spelled_by fuel before at ≡ spelled_by fuel after at
  by_same zero at = refl
  by_same (suc more) at = from_same (spelled_by more before) (spelled_by more after) (by_same more) (location p at).origin (each at)

  pub texts_same : (at : ℕ) → text_at before at ≡ text_at after at
  texts_same at = λ i. (by_same (length p.locations) at i).text
