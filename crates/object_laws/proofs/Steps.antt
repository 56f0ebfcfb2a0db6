-- Steps that lay out: what is laid is of objects that are locations, and no location goes.
use Rattle.std.proofs.Common.{inl, inr, ◌≡◌, ◌⊎◌, ℕ, zero, suc, ◌≤◌, ◌<◌, Bool, true, false, List, [], ◌∷◌, ◌++◌, length, refl, sym, ap, subst, arith}
use Rattle.std.specs.Prelude.{None, Ok, Err, nat_lt, slice_set, slice_index_or, if◌then◌else◌}
use Rattle.std.proofs.lemmas.Bool.{cases_lt}
use Rattle.sc_base.specs.declared.skip.LimitKind.TheVariants as limit
use Rattle.sc_world.specs.declared.run.Origin.{Origin}
use Rattle.sc_world.specs.Build.{Built, goes_on, ◌>>=◌, done}
use Rattle.sc_world.specs.Layout.{Layout, Location, nowhere}
use Rattle.sc_world.specs.Objects.{Laying, most_locations, next, bits_if, push, take_bits, stub}

abbrev pub root_at : List Location → ℕ → ℕ
root_at ls i = (slice_index_or ls i nowhere).root

-- the object of each location is a location
pub record Good (ls : List Location) : Type 0 where
  pub roots : (i : ℕ) → i < length ls → root_at ls i < length ls

-- Lists.

pub length_pushed : (ls : List Location) (l : Location) → length (ls ++ l ∷ []) ≡ suc (length ls)
length_pushed [] l = refl
length_pushed (x ∷ ls) l = ap suc (length_pushed ls l)

pushed_before : (ls : List Location) (l : Location) (i : ℕ) → i < length ls → root_at (ls ++ l ∷ []) i ≡ root_at ls i
pushed_before [] l i low = absurd (omega (arith, low))
pushed_before (x ∷ ls) l zero low = refl
pushed_before (x ∷ ls) l (suc i) low = pushed_before ls l i (omega (arith, low))

pushed_last : (ls : List Location) (l : Location) (i : ℕ) → i ≡ length ls → root_at (ls ++ l ∷ []) i ≡ l.root
pushed_last [] l zero e = refl
pushed_last [] l (suc i) e = absurd (omega (arith, e))
pushed_last (x ∷ ls) l zero e = absurd (omega (arith, e))
pushed_last (x ∷ ls) l (suc i) e = pushed_last ls l i (omega (arith, e))

pub pushed_good : (ls : List Location) (l : Location) → Good ls → l.root < suc (length ls) → Good (ls ++ l ∷ [])
pushed_good ls l good own = record { roots = λ i low. by i (cases_lt i (length ls)) low }
  where
    by : (i : ℕ) → (i < length ls) ⊎ (length ls ≤ i) → i < length (ls ++ l ∷ []) → root_at (ls ++ l ∷ []) i < length (ls ++ l ∷ [])
    by i (inl less) low = omega (arith, pushed_before ls l i less, good.roots i less, length_pushed ls l)
    by i (inr high) low =
        let last : i ≡ length ls = omega (arith, high, low, length_pushed ls l) in omega (arith, pushed_last ls l i last, own, length_pushed ls l)

pub length_set : (ls : List Location) (k : ℕ) (l : Location) → length (slice_set ls k l) ≡ length ls
length_set [] k l = refl
length_set (x ∷ ls) zero l = refl
length_set (x ∷ ls) (suc k) l = ap suc (length_set ls k l)

set_root : (ls : List Location) (k : ℕ) (l : Location) → l.root ≡ root_at ls k → (i : ℕ) → root_at (slice_set ls k l) i ≡ root_at ls i
set_root [] k l e i = refl
set_root (x ∷ ls) zero l e zero = e
set_root (x ∷ ls) zero l e (suc i) = refl
set_root (x ∷ ls) (suc k) l e zero = refl
set_root (x ∷ ls) (suc k) l e (suc i) = set_root ls k l e i

pub set_good : (ls : List Location) (k : ℕ) (l : Location) → l.root ≡ root_at ls k → Good ls → Good (slice_set ls k l)
set_good ls k l e good =
    record {
      roots = λ i low.
          (let before : i < length ls = omega (arith, low, length_set ls k l) in
          omega (arith, set_root ls k l e i, good.roots i before, length_set ls k l));
    }

-- What is built.

abbrev pub After : {A : Type 0} → (A → Layout → Type 0) → Built Layout A → Type 0
After R (Ok (a, q)) = R a q
After R (Err e) = Unit {0}

pub chained : {A B : Type 0} (R : A → Layout → Type 0) (S : B → Layout → Type 0) (r : Built Layout A) (k : A → Laying B) → After R r
    → ((a : A) (q : Layout) → R a q → After S (k a q)) → After S (goes_on r k)
chained R S (Ok (a, q)) k h g = g a q h
chained R S (Err e) k h g = tt

pub record Grows (p q : Layout) : Type 0 where
  pub longer : length p.locations ≤ length q.locations
  pub good : Good q.locations

pub wider : {A : Type 0} (p q : Layout) (r : Built Layout A) → length p.locations ≤ length q.locations → After (λ a z. Grows q z) r
    → After (λ a z. Grows p z) r
wider p q (Ok (a, z)) more g = record { longer = omega (arith, more, g.longer); good = g.good }
wider p q (Err e) more g = tt

-- from a good layout with so many locations at least it goes to a good one
abbrev pub Keeps : {A : Type 0} → (n : ℕ) → Laying A → Type 0
Keeps n m = (p : Layout) → n ≤ length p.locations → Good p.locations → After (λ a q. Grows p q) (m p)

pub joined : {A B : Type 0} (n : ℕ) (m : Laying A) (k : A → Laying B) → Keeps n m → ((a : A) → Keeps n (k a)) → Keeps n (m >>= k)
joined n m k hm hk p low good =
    chained (λ a q. Grows p q) (λ b q. Grows p q) (m p) k (hm p low good)
    (λ a q h. wider p q (k a q) h.longer (hk a q (omega (arith, low, h.longer)) h.good))

-- steps that lay nothing
abbrev pub Same : {A : Type 0} → Laying A → Type 0
Same m = (p : Layout) → After (λ a q. q.locations ≡ p.locations) (m p)

pub same_keeps : {A : Type 0} (n : ℕ) (m : Laying A) → Same m → Keeps n m
same_keeps n m h p low good = by (m p) (h p)
  where
    by : {A : Type 0} (r : Built Layout A) → After (λ a q. q.locations ≡ p.locations) r → After (λ a q. Grows p q) r
    by (Ok (a, q)) e = record { longer = omega (arith, ap length e); good = subst Good (sym e) good }
    by (Err k) e = tt

pub done_keeps : {A : Type 0} (n : ℕ) (a : A) → Keeps n (done a)
done_keeps n a p low good = record { longer = omega arith; good = good }

abbrev pub unit_done : Laying (Unit {0})
unit_done = done tt

pub nothing_keeps : (n : ℕ) → Keeps n unit_done
nothing_keeps n p low good = record { longer = omega arith; good = good }

pub if_keeps : {A : Type 0} (n : ℕ) (b : Bool) (x y : Laying A) → Keeps n x → Keeps n y → Keeps n (if b then x else y)
if_keeps n true x y hx hy = hx
if_keeps n false x y hx hy = hy

-- The single steps.

next_by : (b : Bool) (p : Layout)
    → After (λ k q. (q.locations ≡ p.locations) × (k ≡ length p.locations)) (if b then Ok (length p.locations, p) else Err limit.Locations)
next_by true p = (refl, refl)
next_by false p = tt

pub next_is : (p : Layout) → After (λ k q. (q.locations ≡ p.locations) × (k ≡ length p.locations)) (next p)
next_is p = next_by (nat_lt (length p.locations) most_locations) p

pub bits_same : (b : Bool) (n : ℕ) → Same (bits_if b n)
bits_same true n p = refl
bits_same false n p = refl

pub bits_keep : (n bits : ℕ) → Keeps n (take_bits bits)
bits_keep n bits p low good = record { longer = omega arith; good = good }

pub stub_keeps : (n : ℕ) (o : Origin) → Keeps n (stub o)
stub_keeps n o p low good =
    chained (λ k q. (q.locations ≡ p.locations) × (k ≡ length p.locations)) (λ k q. Grows p q) (next p)
    (λ k. push (record { type = None; origin = o; root = k; bit = None; state = None; target = None }) >>= λ _. done k) (next_is p)
    (λ k q same.
    (let l : Location = record { type = None; origin = o; root = k; bit = None; state = None; target = None } in
    record {
      longer = omega (arith, length_pushed q.locations l, ap length same.0);
      good = pushed_good q.locations l (subst Good (sym same.0) good) (omega (arith, same.1, ap length same.0));
    }))
