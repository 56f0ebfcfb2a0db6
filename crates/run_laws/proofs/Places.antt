-- Numbers of locations: those that a layout names and those that are looked for in it.
use Rattle.std.proofs.Common.{ℕ, zero, suc, ◌+◌, ◌≤◌, ◌<◌, Bool, true, false, List, [], ◌∷◌, length, subst, arith}
use Rattle.std.specs.Prelude.{Option, Some, None, IfSome, slice_index_or, if◌then◌else◌}
use Rattle.std.specs.List.{AllByRecursion, range_with_len}
use Rattle.run_store.specs.Concrete.{Cell, Number, Nothing, Kind, Numbers, Pointers, NoCell, blank}
use Rattle.sum_rows.specs.declared.path.Step.{Step}
use Rattle.sc_world.specs.declared.run.Origin.{Origin}
use Rattle.sc_world.specs.Layout.{Layout, Location, location_of, same_origin, is_part_of, part, first_where, or_zero}
use Rattle.sc_world.specs.World.{pointer_to, null, target_of, target_or_null}
use Rattle.sc_world.specs.Eval.{place_of, cells_among, cells_of, or_itself}
use Rattle.run_laws.proofs.Steps.{IsPlace, Inside}

abbrev pub IfBelow : ℕ → Option ℕ → Type 0
IfBelow m None = Unit {0}
IfBelow m (Some at) = at < m

below_if : (b : Bool) (m k : ℕ) (o : Option ℕ) → k < m → IfBelow m o → IfBelow m (if b then Some k else o)
below_if true m k o h i = h
below_if false m k o h i = i

first_below : (test : Location → Bool) (k : ℕ) (ls : List Location) → IfBelow (k + length ls) (first_where test k ls)
first_below test k [] = tt
first_below test k (l ∷ ls) =
    below_if (test l) (k + length (l ∷ ls)) k (first_where test (k + 1) ls) (omega arith)
    (subst (λ m. IfBelow m (first_where test (k + 1) ls)) (omega arith) (first_below test (k + 1) ls))

pub all_if : {X : Type 0} (Q : X → Type 0) (b : Bool) (x : X) (xs : List X) → Q x → AllByRecursion Q xs
    → AllByRecursion Q (if b then x ∷ xs else xs)
all_if Q true x xs h hs = (h, hs)
all_if Q false x xs h hs = hs

pub at_index : {X : Type 0} (Q : X → Type 0) (d : X) → Q d → (xs : List X) → AllByRecursion Q xs → (k : ℕ)
    → Q (slice_index_or xs k d)
at_index Q d hd [] all k = hd
at_index Q d hd (x ∷ xs) (h, hs) zero = h
at_index Q d hd (x ∷ xs) (h, hs) (suc k) = at_index Q d hd xs hs k

module _ (p : Layout) where
  -- a number of a location, if there is one
  abbrev pub IfPlace : Option ℕ → Type 0
  IfPlace None = Unit {0}
  IfPlace (Some at) = IsPlace p at

  abbrev pub ArePlaces : List ℕ → Type 0
  ArePlaces ks = AllByRecursion (IsPlace p) ks

  abbrev pub AreInside : List Cell → Type 0
  AreInside cs = AllByRecursion (Inside p) cs

  place_from : (o : Option ℕ) → IfBelow (0 + length p.locations) o → IfPlace o
  place_from None h = tt
  place_from (Some at) h = omega (arith, h)

  pub place_named : (o : Option ℕ) → IfSome o (λ to. to < length p.locations) → IfPlace o
  place_named None h = tt
  place_named (Some at) h = omega (arith, h)

  pub part_place : (at : ℕ) (s : Step) → IfPlace (part p at s)
  part_place at s = place_from (part p at s) (first_below (λ l. is_part_of at s l.origin) 0 p.locations)

  pub zero_place : IsPlace p 0
  zero_place = omega arith

  pub or_zero_place : (o : Option ℕ) → IfPlace o → IsPlace p (or_zero o)
  or_zero_place None h = zero_place
  or_zero_place (Some at) h = h

  pub origin_place : (o : Origin) → IsPlace p (location_of p o)
  origin_place o =
      or_zero_place (first_where (λ l. same_origin o l.origin) 0 p.locations)
      (place_from (first_where (λ l. same_origin o l.origin) 0 p.locations) (first_below (λ l. same_origin o l.origin) 0 p.locations))

  pub or_itself_place : (at : ℕ) (o : Option ℕ) → IsPlace p at → IfPlace o → IsPlace p (or_itself at o)
  or_itself_place at None h i = h
  or_itself_place at (Some k) h i = i

  -- Cells.

  pub null_inside : Inside p null
  null_inside = record { within = omega arith }

  pub number_inside : (w n : ℕ) → Inside p (Number w n)
  number_inside w n = record { within = omega arith }

  pub nothing_inside : Inside p Nothing
  nothing_inside = record { within = omega arith }

  pub pointer_inside : (at : ℕ) → IsPlace p at → Inside p (pointer_to at)
  pointer_inside at h = record { within = omega (arith, h) }

  pub target_inside : (o : Option ℕ) → IfPlace o → Inside p (target_or_null o)
  target_inside None h = null_inside
  target_inside (Some at) h = pointer_inside at h

  pub blank_inside : (k : Kind) → Inside p (blank k)
  blank_inside (Numbers w) = number_inside w 0
  blank_inside Pointers = null_inside
  blank_inside NoCell = nothing_inside

  pub place_inside : (c : Cell) → Inside p c → IsPlace p (place_of c)
  place_inside c h = omega (arith, h.within)

  pub if_inside : (b : Bool) (c d : Cell) → Inside p c → Inside p d → Inside p (if b then c else d)
  if_inside true c d h i = h
  if_inside false c d h i = i

  pub inside_points : (c : Cell) → 0 < length p.locations → Inside p c → target_of c ≤ length p.locations
  inside_points c some h = omega (arith, some, h.within)

  -- the cells of an object

  range_places : (a m : ℕ) → a + m ≤ length p.locations → ArePlaces (range_with_len a m)
  range_places a zero h = tt
  range_places a (suc m) h = (omega (arith, h), range_places (a + 1) m (omega (arith, h)))

  among_places : (at : ℕ) (ks : List ℕ) → ArePlaces ks → ArePlaces (cells_among p at ks)
  among_places at [] all = tt
  among_places at (k ∷ ks) (h, hs) =
      all_if (IsPlace p) _ k (cells_among p at ks) h (among_places at ks hs)

  pub cells_places : (at : ℕ) → ArePlaces (cells_of p at)
  cells_places at = among_places at (range_with_len 0 (length p.locations)) (range_places 0 (length p.locations) (omega arith))
