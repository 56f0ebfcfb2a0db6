-- What the layout of a function says of its locations: each has the type that its origin has, each object has the parts
-- that the text names, and what the function declares is there.
use Rattle.std.specs.Prelude.{◌≡◌, ◌⊎◌, ℕ, ◌+◌, ◌<◌, nat_eq, Bool, true, Option, Some, None, IfSome, Ok, Err, List, [], ◌∷◌, length, slice_get, slice_index_or}
use Rattle.std.specs.List.{list_any}
use Rattle.sc_base.specs.declared.pos.NameId.{NameId}
use Rattle.sum_rows.specs.declared.path.Step.{Step}
use Rattle.sum_rows.specs.declared.path.Step.TheVariants as step
use Rattle.sc_world.specs.declared.run.Origin.{Origin}
use Rattle.sc_world.specs.declared.run.Origin.TheVariants as origin
use Rattle.sc_world.specs.Tree.{Ty, Ptr}
use Rattle.sc_world.specs.Source.{Source, Member}
use Rattle.sc_world.specs.Build.{Built}
use Rattle.sc_world.specs.Gather.{Found, nothing_found}
use Rattle.sc_world.specs.Layout.{Location, nowhere}
use Rattle.sc_world.specs.Objects.{Parts, NoParts, Elements, Members, parts_of, is_named}

abbrev pub IsAmong : {A : Type 0} → A → List A → Type 0
IsAmong x [] = ⊥
IsAmong x (y ∷ ys) = (y ≡ x) ⊎ IsAmong x ys

abbrev pub at : List Location → ℕ → Location
at ls i = slice_index_or ls i nowhere

-- a location of that origin is among them
abbrev pub Has : List Location → Origin → Type 0
Has ls o = (j : ℕ) × (j < length ls) × ((at ls j).origin ≡ o)

-- a part to which a step leads, with its type: an element of those that are shown, or a member
abbrev pub IsPart : Parts → Step → Ty → Type 0
IsPart (Elements n t) (step.Elem k) u = (k < n) × (t ≡ u)
IsPart (Members ms) (step.Field n) u = (x : Member) × IsAmong x ms × (x.name ≡ Some n) × (x.type ≡ u)
IsPart _ _ u = ⊥

module _ (s : Source) (f : Found) where
  -- the type that a location of that origin has; a stub has none
  abbrev pub FitsOrigin : List Location → Option Ty → Origin → Type 0
  FitsOrigin ls y (origin.Param n) = (t : Ty) × (y ≡ Some t) × (slice_get s.params n ≡ Some t)
  FitsOrigin ls y (origin.Global n) = (t : Ty) × (y ≡ Some t) × (slice_get s.globals n ≡ Some t)
  FitsOrigin ls y (origin.Local n) = (t : Ty) × (y ≡ Some t) × (slice_get s.locals n ≡ Some t)
  FitsOrigin ls y (origin.Literal p) = y ≡ None
  FitsOrigin ls y (origin.Function n) = y ≡ None
  -- what a pointer points to, or a stub
  FitsOrigin ls y (origin.Target k) = (k < length ls) × IfSome y (λ t. (at ls k).type ≡ Some (Ptr t))
  FitsOrigin ls y (origin.Call k) = Unit {0}
  FitsOrigin ls y (origin.Part k x) =
      (u : Ty) × (t : Ty) × ((at ls k).type ≡ Some u) × (y ≡ Some t) × IsPart (parts_of s u) x t

  -- the elements that are shown are there, and the members that the text names
  abbrev pub HasParts : List Location → ℕ → Parts → Type 0
  HasParts ls i NoParts = Unit {0}
  HasParts ls i (Elements n t) = (k : ℕ) → k < n → Has ls (origin.Part i (step.Elem k))
  HasParts ls i (Members ms) =
      (x : Member) (n : NameId) → IsAmong x ms → x.name ≡ Some n → is_named f n ≡ true → Has ls (origin.Part i (step.Field n))

  abbrev pub HasItsParts : List Location → ℕ → Option Ty → Type 0
  HasItsParts ls i None = Unit {0}
  HasItsParts ls i (Some t) = HasParts ls i (parts_of s t)

  abbrev pub IsRight : List Location → ℕ → Type 0
  IsRight ls i = FitsOrigin ls (at ls i).type (at ls i).origin × HasItsParts ls i (at ls i).type

  -- what a layout has
  pub record IsLaidFor (ls : List Location) : Type 0 where
    pub right : (i : ℕ) → i < length ls → IsRight ls i
    pub params : (n : ℕ) (t : Ty) → slice_get s.params n ≡ Some t → Has ls (origin.Param n)
    pub globals : (n : ℕ) (t : Ty) → slice_get s.globals n ≡ Some t → list_any (nat_eq n) f.globals ≡ true
        → Has ls (origin.Global n)
    pub locals : (n : ℕ) (t : Ty) → slice_get s.locals n ≡ Some t → Has ls (origin.Local n)
    pub literals : (o : Origin) → IsAmong o f.literals → Has ls o

-- strings and functions
abbrev pub IsLiteral : Origin → Type 0
IsLiteral (origin.Literal p) = Unit {0}
IsLiteral (origin.Function n) = Unit {0}
IsLiteral _ = ⊥

-- what was found, if no limit was passed
abbrev pub found_in : Built Found (Unit {0}) → Found
found_in (Ok (u, f)) = f
found_in (Err e) = nothing_found
