-- The locations of the layout of a function are reached from others of it, and elements have small numbers.
use Rattle.std.proofs.Common.{◌≡◌, ℕ, zero, suc, ◌+◌, ◌≤◌, ◌<◌, ◌^◌, min, nat_eq, Bool, true, false, List, [], ◌∷◌, length, refl, arith}
use Rattle.std.specs.Prelude.{Option, Some, None, if◌then◌else◌}
use Rattle.sum_rows.specs.declared.path.Step.{Step}
use Rattle.sum_rows.specs.declared.path.Step.TheVariants as step
use Rattle.sc_world.specs.declared.run.Origin.{Origin}
use Rattle.sc_world.specs.declared.run.Origin.TheVariants as origin
use Rattle.sc_world.specs.Tree.{Ty, Void, Bool', Int, Ptr, Array, Struct, Union, Func, Opaque}
use Rattle.sc_world.specs.Source.{Source}
use Rattle.sc_world.specs.Gather.{Found, gather_function, nothing_found}
use Rattle.sc_world.specs.Layout.{Location, location}
use Rattle.sc_world.specs.Objects.{parts_of, shown_elements}
use Rattle.sc_world.specs.Paths.{Texts}
use Rattle.layout_laws.specs.Origins.{at, IsPart, FitsOrigin, IsLaidFor, found_in}
use Rattle.text_laws.specs.Ways.{FitsWord, HasPlainName, HasPlainNames, HasPlainStep, IsPlain, IsPlainStep, NamesArePlain}

typed_there : (ls : List Location) (i : ℕ) (t : Ty) → (at ls i).type ≡ Some t → i < length ls
typed_there [] i t e = absurd (none_some e)
  where
    none_some : None ≡ Some t → ⊥
    none_some h = absurd (cc)
typed_there (l ∷ ls) zero t e = omega arith
typed_there (l ∷ ls) (suc i) t e = omega (arith, typed_there ls i t e)

few_by : (b : Bool) (n : ℕ) → (if b then 8 else min n 8) ≤ 8
few_by true n = omega arith
few_by false n = omega arith

few_shown : (n : Option ℕ) → shown_elements n ≤ 8
few_shown None = omega arith
few_shown (Some n) = few_by (nat_eq n 0) n

element_small : (s : Source) (u t : Ty) (k : ℕ) → IsPart (parts_of s u) (step.Elem k) t → FitsWord k
element_small s (Array w m) t k (less, e) = omega (arith, less, few_shown m)
element_small s Void t k is = absurd is
element_small s Bool' t k is = absurd is
element_small s (Int i) t k is = absurd is
element_small s (Ptr w) t k is = absurd is
element_small s (Struct m) t k is = absurd is
element_small s (Union m) t k is = absurd is
element_small s (Func w i ts b) t k is = absurd is
element_small s (Opaque i) t k is = absurd is

step_plain : (s : Source) (names : List (List ℕ)) (u t : Ty) (y : Step) → IsPart (parts_of s u) y t → HasPlainStep names y
    → IsPlainStep names y
step_plain s names u t step.Deref is h = tt
step_plain s names u t (step.Field n) is h = h
step_plain s names u t (step.Elem k) is h = element_small s u t k is

origin_plain : (s : Source) (f : Found) (x : Texts) (y : Option Ty) (o : Origin) → FitsOrigin s f x.layout.locations y o
    → HasPlainName x o → IsPlain x o
origin_plain s f x y (origin.Param n) fits h = h
origin_plain s f x y (origin.Global n) fits h = h
origin_plain s f x y (origin.Local n) fits h = h
origin_plain s f x y (origin.Literal p) fits h = tt
origin_plain s f x y (origin.Function n) fits h = tt
origin_plain s f x y (origin.Target k) fits h = fits.0
origin_plain s f x y (origin.Call k) fits h = h
origin_plain s f x y (origin.Part k z) (u, t, is, e, p) h =
    (typed_there x.layout.locations k u is, step_plain s x.names u t z p h)

pub plain : (s : Source) (x : Texts) → IsLaidFor s (found_in (gather_function s nothing_found)) x.layout.locations → NamesArePlain x
    → HasPlainNames x
plain s x laid names k less =
    origin_plain s (found_in (gather_function s nothing_found)) x (location x.layout k).type (location x.layout k).origin
    (laid.right k less).0 (names k less)
