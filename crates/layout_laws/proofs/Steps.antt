-- Steps that lay out: what is there keeps its type and its origin, and what is new is right.
use Rattle.std.proofs.Common.{inl, inr, ◌≡◌, ◌⊎◌, ℕ, zero, suc, ◌+◌, ◌≤◌, ◌<◌, Bool, true, false, ◌&&◌, List, [], ◌∷◌, ◌++◌, length, refl, sym, ap, subst, ◌∙◌, arith}
use Rattle.std.specs.Prelude.{Option, Some, None, IfSome, Ok, Err, nat_lt, slice_get, slice_set, slice_index_or, if◌then◌else◌}
use Rattle.sc_base.specs.declared.pos.NameId.{NameId}
use Rattle.sc_base.specs.declared.skip.LimitKind.TheVariants as limit
use Rattle.sum_rows.specs.declared.path.Step.{Step}
use Rattle.sum_rows.specs.declared.path.Step.TheVariants as step
use Rattle.sc_world.specs.declared.run.Origin.{Origin}
use Rattle.sc_world.specs.declared.run.Origin.TheVariants as origin
use Rattle.sc_world.specs.Tree.{Ty, Ptr}
use Rattle.sc_world.specs.Build.{Built, goes_on, ◌>>=◌, done}
use Rattle.sc_world.specs.Source.{Source, Member}
use Rattle.sc_world.specs.Gather.{Found}
use Rattle.sc_world.specs.Layout.{Layout, Location, nowhere}
use Rattle.sc_world.specs.Objects.{Laying, Parts, NoParts, Elements, Members, parts_of, is_named, most_locations, next, bits_if, push, take_bits, Chosen, add, stub, gives_cells, gives_states, is_cell, cell_bits, state_bits, root_or, put_at}
use Rattle.layout_laws.specs.Origins.{IsAmong, at, Has, IsPart, FitsOrigin, HasParts, HasItsParts, IsRight}
use Rattle.layout_laws.proofs.Lists.{length_pushed, length_set, pushed_before, pushed_last, set_look, below_or}

-- what stays
pub record Stays (ls ms : List Location) : Type 0 where
  pub longer : length ls ≤ length ms
  pub types : (i : ℕ) → i < length ls → (at ms i).type ≡ (at ls i).type
  pub origins : (i : ℕ) → i < length ls → (at ms i).origin ≡ (at ls i).origin

pub stays_refl : (ls : List Location) → Stays ls ls
stays_refl ls = record { longer = omega arith; types = λ i h. refl; origins = λ i h. refl }

pub stays_trans : (ls ms ns : List Location) → Stays ls ms → Stays ms ns → Stays ls ns
stays_trans ls ms ns h g = record {
  longer = omega (arith, h.longer, g.longer);
  types = λ i less. g.types i (omega (arith, less, h.longer)) ∙ h.types i less;
  origins = λ i less. g.origins i (omega (arith, less, h.longer)) ∙ h.origins i less;
}

pub has_stays : (ls ms : List Location) (o : Origin) → Stays ls ms → Has ls o → Has ms o
has_stays ls ms o h (j, less, e) = (j, omega (arith, less, h.longer), h.origins j less ∙ e)

-- what has a type is a location
pub typed_there : (ls : List Location) (i : ℕ) (t : Ty) → (at ls i).type ≡ Some t → i < length ls
typed_there [] i t e = absurd (none_some e)
  where
    none_some : None ≡ Some t → ⊥
    none_some h = absurd (cc)
typed_there (l ∷ ls) zero t e = omega arith
typed_there (l ∷ ls) (suc i) t e = omega (arith, typed_there ls i t e)

pub type_stays : (ls ms : List Location) (i : ℕ) (t : Ty) → Stays ls ms → (at ls i).type ≡ Some t → (at ms i).type ≡ Some t
type_stays ls ms i t h e = h.types i (typed_there ls i t e) ∙ e

module _ (s : Source) (f : Found) where
  target_stays : (ls ms : List Location) (y : Option Ty) (k : ℕ) → Stays ls ms → IfSome y (λ t. (at ls k).type ≡ Some (Ptr t))
      → IfSome y (λ t. (at ms k).type ≡ Some (Ptr t))
  target_stays ls ms None k h e = tt
  target_stays ls ms (Some t) k h e = type_stays ls ms k (Ptr t) h e

  pub fits_stays : (ls ms : List Location) (y : Option Ty) (o : Origin) → Stays ls ms → FitsOrigin s f ls y o → FitsOrigin s f ms y o
  fits_stays ls ms y (origin.Param n) h e = e
  fits_stays ls ms y (origin.Global n) h e = e
  fits_stays ls ms y (origin.Local n) h e = e
  fits_stays ls ms y (origin.Literal p) h e = e
  fits_stays ls ms y (origin.Function n) h e = e
  fits_stays ls ms y (origin.Target k) h e = (omega (arith, e.0, h.longer), target_stays ls ms y k h e.1)
  fits_stays ls ms y (origin.Call k) h e = e
  fits_stays ls ms y (origin.Part k x) h (u, t, is, e, p) = (u, t, type_stays ls ms k u h is, e, p)

  parts_stay : (ls ms : List Location) (i : ℕ) (x : Parts) → Stays ls ms → HasParts s f ls i x → HasParts s f ms i x
  parts_stay ls ms i NoParts h e = tt
  parts_stay ls ms i (Elements n t) h e = λ k less. has_stays ls ms (origin.Part i (step.Elem k)) h (e k less)
  parts_stay ls ms i (Members xs) h e =
      λ x n among named found. has_stays ls ms (origin.Part i (step.Field n)) h (e x n among named found)

  pub its_parts_stay : (ls ms : List Location) (i : ℕ) (y : Option Ty) → Stays ls ms → HasItsParts s f ls i y → HasItsParts s f ms i y
  its_parts_stay ls ms i None h e = tt
  its_parts_stay ls ms i (Some t) h e = parts_stay ls ms i (parts_of s t) h e

  right_stays : (ls ms : List Location) (i : ℕ) → i < length ls → Stays ls ms → IsRight s f ls i → IsRight s f ms i
  right_stays ls ms i less h (fits, has) = (
    subst (λ y. FitsOrigin s f ms y (at ms i).origin) (sym (h.types i less))
        (subst (λ o. FitsOrigin s f ms (at ls i).type o) (sym (h.origins i less)) (fits_stays ls ms (at ls i).type (at ls i).origin h fits)),
    subst (λ y. HasItsParts s f ms i y) (sym (h.types i less)) (its_parts_stay ls ms i (at ls i).type h has),
  )

  -- from one list of locations to another one
  pub record Goes (ls ms : List Location) : Type 0 where
    pub stays : Stays ls ms
    pub right : (i : ℕ) → length ls ≤ i → i < length ms → IsRight s f ms i

  pub goes_refl : (ls : List Location) → Goes ls ls
  goes_refl ls = record { stays = stays_refl ls; right = λ i low high. absurd (omega (arith, low, high)) }

  pub goes_trans : (ls ms ns : List Location) → Goes ls ms → Goes ms ns → Goes ls ns
  goes_trans ls ms ns h g = record {
    stays = stays_trans ls ms ns h.stays g.stays;
    right = λ i low high. side i low high (below_or i (length ms));
  }
    where
      side : (i : ℕ) → length ls ≤ i → i < length ns → (i < length ms) ⊎ (length ms ≤ i) → IsRight s f ns i
      side i low high (inl less) = right_stays ms ns i less g.stays (h.right i low less)
      side i low high (inr more) = g.right i more high

-- What is built.
abbrev pub After : {A : Type 0} → (A → Layout → Type 0) → Built Layout A → Type 0
After R (Ok (a, q)) = R a q
After R (Err e) = Unit {0}

pub chained : {A B : Type 0} (R : A → Layout → Type 0) (S : B → Layout → Type 0) (r : Built Layout A) (k : A → Laying B) → After R r
    → ((a : A) (q : Layout) → R a q → After S (k a q)) → After S (goes_on r k)
chained R S (Ok (a, q)) k h g = g a q h
chained R S (Err e) k h g = tt

pub weaker : {A : Type 0} (R S : A → Layout → Type 0) (r : Built Layout A) → ((a : A) (q : Layout) → R a q → S a q) → After R r → After S r
weaker R S (Ok (a, q)) k h = k a q h
weaker R S (Err e) k h = tt

-- one location more
pub record Pushed (ls ms : List Location) (y : Option Ty) (o : Origin) : Type 0 where
  pub stays : Stays ls ms
  pub one : length ms ≡ suc (length ls)
  pub type : (at ms (length ls)).type ≡ y
  pub origin : (at ms (length ls)).origin ≡ o

pub pushed : (ls : List Location) (l : Location) → Pushed ls (ls ++ l ∷ []) l.type l.origin
pushed ls l = record {
  stays = record {
    longer = omega (arith, length_pushed ls l);
    types = λ i less. ap (λ (x : Location). x.type) (pushed_before nowhere ls l i less);
    origins = λ i less. ap (λ (x : Location). x.origin) (pushed_before nowhere ls l i less);
  };
  one = length_pushed ls l;
  type = ap (λ (x : Location). x.type) (pushed_last nowhere ls l);
  origin = ap (λ (x : Location). x.origin) (pushed_last nowhere ls l);
}

-- one location set to one of its type and its origin
pub set_stays : (ls : List Location) (k : ℕ) (l : Location) → l.type ≡ (at ls k).type → l.origin ≡ (at ls k).origin
    → Stays ls (slice_set ls k l)
set_stays ls k l e d = record {
  longer = omega (arith, length_set ls k l);
  types = λ i less. set_look (λ (x : Location). x.type) nowhere ls k l e i;
  origins = λ i less. set_look (λ (x : Location). x.origin) nowhere ls k l d i;
}

-- The single steps.

next_by : (b : Bool) (p : Layout)
    → After (λ k q. (q ≡ p) × (k ≡ length p.locations))
    (if b then Ok (length p.locations, p) else Err limit.Locations)
next_by true p = (refl, refl)
next_by false p = tt

pub next_is : (p : Layout) → After (λ k q. (q ≡ p) × (k ≡ length p.locations)) (next p)
next_is p = next_by (nat_lt (length p.locations) most_locations) p

bits_same : (b : Bool) (n : ℕ) (p : Layout) → After (λ a q. q.locations ≡ p.locations) (bits_if b n p)
bits_same true n p = refl
bits_same false n p = refl

pub add_pushes : (s : Source) (c : Chosen) (root : Option ℕ) (t : Ty) (o : Origin) (p : Layout)
    → After (λ k q. (k ≡ length p.locations) × Pushed p.locations q.locations (Some t) o) (add s c root t o p)
add_pushes s c root t o p =
    chained (λ k q. (q ≡ p) × (k ≡ length p.locations)) (λ k q. (k ≡ length p.locations) × Pushed p.locations q.locations (Some t) o) (next p)
    (λ k. bits_if (gives_cells c && is_cell t) (cell_bits s t) >>= λ bit. bits_if (gives_states c) (state_bits s) >>= λ state.
    push (record { type = Some t; origin = o; root = root_or root k; bit = bit; state = state; target = None }) >>= λ _. done k)
    (next_is p)
    (λ k q same.
    chained (λ bit r. r.locations ≡ q.locations) (λ k q. (k ≡ length p.locations) × Pushed p.locations q.locations (Some t) o)
    (bits_if (gives_cells c && is_cell t) (cell_bits s t) q)
    (λ bit. bits_if (gives_states c) (state_bits s) >>= λ state.
    push (record { type = Some t; origin = o; root = root_or root k; bit = bit; state = state; target = None }) >>= λ _. done k)
    (bits_same (gives_cells c && is_cell t) (cell_bits s t) q)
    (λ bit r e.
    chained (λ state z. z.locations ≡ r.locations) (λ k q. (k ≡ length p.locations) × Pushed p.locations q.locations (Some t) o)
    (bits_if (gives_states c) (state_bits s) r)
    (λ state. push (record { type = Some t; origin = o; root = root_or root k; bit = bit; state = state; target = None }) >>= λ _. done k)
    (bits_same (gives_states c) (state_bits s) r)
    (λ state z d. (
      same.1,
      subst (λ ls. Pushed ls (z.locations ++ record { type = Some t; origin = o; root = root_or root k; bit = bit; state = state; target = None } ∷ []) (Some t) o)
          (d ∙ e ∙ ap (λ (x : Layout). x.locations) same.0)
          (pushed z.locations (record { type = Some t; origin = o; root = root_or root k; bit = bit; state = state; target = None })),
    ))))

pub stub_pushes : (o : Origin) (p : Layout)
    → After (λ k q. (k ≡ length p.locations) × Pushed p.locations q.locations None o) (stub o p)
stub_pushes o p =
    chained (λ k q. (q ≡ p) × (k ≡ length p.locations)) (λ k q. (k ≡ length p.locations) × Pushed p.locations q.locations None o) (next p)
    (λ k. push (record { type = None; origin = o; root = k; bit = None; state = None; target = None }) >>= λ _. done k)
    (next_is p)
    (λ k q same. (
      same.1,
      subst (λ ls. Pushed ls (q.locations ++ record { type = None; origin = o; root = k; bit = None; state = None; target = None } ∷ []) None o)
          (ap (λ (x : Layout). x.locations) same.0)
          (pushed q.locations (record { type = None; origin = o; root = k; bit = None; state = None; target = None })),
    ))
