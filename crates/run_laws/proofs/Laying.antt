-- Steps that lay out locations, calls and spots: the objects that a layout names stay among its locations.
use Rattle.std.proofs.Common.{◌≡◌, ℕ, zero, suc, ◌≤◌, ◌<◌, Bool, true, false, List, [], ◌∷◌, ◌++◌, length, refl, ap, arith}
use Rattle.std.specs.Prelude.{Option, Some, None, IfSome, Ok, Err, nat_lt, slice_set, if◌then◌else◌}
use Rattle.std.specs.List.{AllByRecursion}
use Rattle.sc_base.specs.declared.skip.LimitKind.{LimitKind}
use Rattle.sc_base.specs.declared.skip.LimitKind.TheVariants as limit
use Rattle.sc_world.specs.Build.{Built, goes_on, ◌>>=◌, done, refused}
use Rattle.sc_world.specs.Layout.{Layout, Location, Occurrence, nowhere, no_occurrence, no_spot}
use Rattle.sc_world.specs.Objects.{Laying, most_locations, next, count, take_bits, push, put_at, location_now, bits_if}
use Rattle.sc_world.specs.Occurrences.{push_occurrence, occurrences_now, push_spot, spots_now, occurrence_now, put_occurrence}
use Rattle.run_laws.specs.Proper.{IsClosed}
use Rattle.run_laws.proofs.Places.{at_index}

-- a number below a bound, if there is one
abbrev pub IsBelow : ℕ → Option ℕ → Type 0
IsBelow n o = IfSome o (λ at. at < n)

pub below_more : (m n : ℕ) → m ≤ n → (o : Option ℕ) → IsBelow m o → IsBelow n o
below_more m n le None h = tt
below_more m n le (Some at) h = omega (arith, le, h)

each_more : {X : Type 0} (f : X → Option ℕ) (m n : ℕ) → m ≤ n → (xs : List X) → AllByRecursion (λ x. IsBelow m (f x)) xs
    → AllByRecursion (λ x. IsBelow n (f x)) xs
each_more f m n le [] all = tt
each_more f m n le (x ∷ xs) (h, hs) = (below_more m n le (f x) h, each_more f m n le xs hs)

each_pushed : {X : Type 0} (Q : X → Type 0) (xs : List X) (x : X) → AllByRecursion Q xs → Q x → AllByRecursion Q (xs ++ x ∷ [])
each_pushed Q [] x all h = (h, tt)
each_pushed Q (y ∷ ys) x (g, gs) h = (g, each_pushed Q ys x gs h)

each_set : {X : Type 0} (Q : X → Type 0) (xs : List X) (at : ℕ) (x : X) → AllByRecursion Q xs → Q x → AllByRecursion Q (slice_set xs at x)
each_set Q [] at x all h = tt
each_set Q (y ∷ ys) zero x (g, gs) h = (h, gs)
each_set Q (y ∷ ys) (suc at) x (g, gs) h = (g, each_set Q ys at x gs h)

length_pushed : {X : Type 0} (xs : List X) (x : X) → length (xs ++ x ∷ []) ≡ suc (length xs)
length_pushed [] x = refl
length_pushed (y ∷ ys) x = ap suc (length_pushed ys x)

length_set : {X : Type 0} (xs : List X) (at : ℕ) (x : X) → length (slice_set xs at x) ≡ length xs
length_set [] at x = refl
length_set (y ∷ ys) zero x = refl
length_set (y ∷ ys) (suc at) x = ap suc (length_set ys at x)

-- what a layout names is among its first n locations
pub record Names (n : ℕ) (p : Layout) : Type 0 where
  pub targets : AllByRecursion (λ l. IsBelow n l.target) p.locations
  pub objects : AllByRecursion (λ o. IsBelow n o.object) p.occurrences
  pub spots : AllByRecursion (λ o. IsBelow n o.object) p.spots

names_more : (m n : ℕ) → m ≤ n → (p : Layout) → Names m p → Names n p
names_more m n le p h = record {
  targets = each_more (λ l. l.target) m n le p.locations h.targets;
  objects = each_more (λ o. o.object) m n le p.occurrences h.objects;
  spots = each_more (λ o. o.object) m n le p.spots h.spots;
}

pub closed_from : (p : Layout) → Names (length p.locations) p → IsClosed p
closed_from p h = record {
  targets = λ k. at_index (λ l. IsBelow (length p.locations) l.target) nowhere tt p.locations h.targets k;
  objects = λ k. at_index (λ o. IsBelow (length p.locations) o.object) no_occurrence tt p.occurrences h.objects k;
  spots = λ k. at_index (λ o. IsBelow (length p.locations) o.object) no_spot tt p.spots h.spots k;
}

-- What is built has no fewer locations than before, what it names is among them, and the value goes with their number.
abbrev pub After : {A : Type 0} → ℕ → (A → ℕ → Type 0) → Built Layout A → Type 0
After n Q (Ok (a, p)) = (n ≤ length p.locations) × Names (length p.locations) p × Q a (length p.locations)
After n Q (Err e) = Unit {0}

-- so where there are b locations at least
pub record Lays {A : Type 0} (b : ℕ) (Q : A → ℕ → Type 0) (m : Laying A) : Type 0 where
  pub by : (p : Layout) → b ≤ length p.locations → Names (length p.locations) p → After (length p.locations) Q (m p)

abbrev pub Whatever : {A : Type 0} → A → ℕ → Type 0
Whatever a n = Unit {0}

-- a location's number
abbrev pub There : ℕ → ℕ → Type 0
There at n = at < n

fewer : {A : Type 0} (Q : A → ℕ → Type 0) (m n : ℕ) → m ≤ n → (r : Built Layout A) → After n Q r → After m Q r
fewer Q m n le (Ok (a, p)) h = (omega (arith, le, h.0), h.1, h.2)
fewer Q m n le (Err e) h = tt

behind : {A B : Type 0} (b k : ℕ) (Q : A → ℕ → Type 0) (R : B → ℕ → Type 0) (r : Built Layout A) (f : A → Laying B) → b ≤ k → After k Q r
    → ((a : A) (n : ℕ) → b ≤ n → Q a n → Lays n R (f a)) → After k R (goes_on r f)
behind b k Q R (Ok (a, p)) f le h l =
    fewer R k (length p.locations) h.0 (f a p)
    ((l a (length p.locations) (omega (arith, le, h.0)) h.2).by p (omega arith) h.1)
behind b k Q R (Err e) f le h l = tt

pub chain : {A B : Type 0} {b : ℕ} {Q : A → ℕ → Type 0} {R : B → ℕ → Type 0} {m : Laying A} {f : A → Laying B} → Lays b Q m
    → ((a : A) (n : ℕ) → b ≤ n → Q a n → Lays n R (f a)) → Lays b R (m >>= f)
chain {b = b} {Q = Q} {R = R} {m = m} {f = f} l k =
    record { by = λ p le h. behind b (length p.locations) Q R (m p) f le (l.by p le h) k }

pub gives : {A : Type 0} {b : ℕ} {Q : A → ℕ → Type 0} {a : A} → ((n : ℕ) → b ≤ n → Q a n) → Lays b Q (done a)
gives q = record { by = λ p le h. (omega arith, h, q (length p.locations) le) }

pub refuses : {A : Type 0} {b : ℕ} {Q : A → ℕ → Type 0} {e : LimitKind} → Lays {A = A} b Q (refused e)
refuses = record { by = λ p le h. tt }

pub either : {A : Type 0} {b : ℕ} {Q : A → ℕ → Type 0} {m m' : Laying A} (c : Bool) → Lays b Q m → Lays b Q m'
    → Lays b Q (if c then m else m')
either true l l' = l
either false l l' = l'

either_after : {A : Type 0} (n : ℕ) (Q : A → ℕ → Type 0) (c : Bool) (r r' : Built Layout A) → After n Q r → After n Q r'
    → After n Q (if c then r else r')
either_after n Q true r r' h h' = h
either_after n Q false r r' h h' = h'

-- The single steps.

pub nexts : (b : ℕ) → Lays b (λ at n. at ≤ n) next
nexts b = record {
  by = λ p le h.
      either_after (length p.locations) (λ at n. at ≤ n) (nat_lt (length p.locations) most_locations) (Ok (length p.locations, p))
      (Err limit.Locations) (omega arith, h, omega arith) tt;
}

pub counts : (b : ℕ) → Lays b (λ at n. at ≤ n) count
counts b = record { by = λ p le h. (omega arith, h, omega arith) }

pub takes : (b n : ℕ) → Lays b Whatever (take_bits n)
takes b n = record {
  by = λ p le h. (omega arith, record { targets = h.targets; objects = h.objects; spots = h.spots }, tt);
}

pub takes_if : (b : ℕ) (c : Bool) (n : ℕ) → Lays b Whatever (bits_if c n)
takes_if b true n = chain (takes b n) (λ k m le h. gives {a = Some k} (λ _ _. tt))
takes_if b false n = gives {a = None} (λ _ _. tt)

-- one more location
pub pushes : (b : ℕ) (l : Location) → IsBelow 0 l.target → Lays b (λ _ n. b < n) (push l)
pushes b l none = record {
  by = λ p le h.
      let grown : length (p.locations ++ l ∷ []) ≡ suc (length p.locations) = length_pushed p.locations l in
      let less : length p.locations ≤ length (p.locations ++ l ∷ []) = omega (arith, grown) in
      let more = names_more (length p.locations) (length (p.locations ++ l ∷ [])) less p h in (
        less,
        record {
          targets =
              each_pushed (λ k. IsBelow (length (p.locations ++ l ∷ [])) k.target) p.locations l more.targets
              (below_more 0 (length (p.locations ++ l ∷ [])) (omega arith) l.target none);
          objects = more.objects;
          spots = more.spots;
        },
        omega (arith, grown, le),
      );
}

pub looks : (b at : ℕ) → Lays b (λ l n. IsBelow n l.target) (location_now at)
looks b at = record {
  by = λ p le h. (
    omega arith,
    h,
    at_index (λ l. IsBelow (length p.locations) l.target) nowhere tt p.locations h.targets at,
  );
}

pub puts : (b at : ℕ) (l : Location) → IsBelow b l.target → Lays b Whatever (put_at at l)
puts b at l below = record {
  by = λ p le h.
      let same : length (slice_set p.locations at l) ≡ length p.locations = length_set p.locations at l in
      let enough : length p.locations ≤ length (slice_set p.locations at l) = omega (arith, same) in
      let more = names_more (length p.locations) (length (slice_set p.locations at l)) enough p h in (
        enough,
        record {
          targets =
              each_set (λ k. IsBelow (length (slice_set p.locations at l)) k.target) p.locations at l more.targets
              (below_more b (length (slice_set p.locations at l)) (omega (arith, le, same)) l.target below);
          objects = more.objects;
          spots = more.spots;
        },
        tt,
      );
}

pub pushes_occurrence : (b : ℕ) (o : Occurrence) → IsBelow b o.object → Lays b Whatever (push_occurrence o)
pushes_occurrence b o below = record {
  by = λ p le h. (
    omega arith,
    record {
      targets = h.targets;
      objects =
          each_pushed (λ k. IsBelow (length p.locations) k.object) p.occurrences o h.objects
          (below_more b (length p.locations) le o.object below);
      spots = h.spots;
    },
    tt,
  );
}

pub counts_occurrences : (b : ℕ) → Lays b Whatever occurrences_now
counts_occurrences b = record { by = λ p le h. (omega arith, h, tt) }

pub pushes_spot : (b bit : ℕ) (object : Option ℕ) → IsBelow b object → Lays b Whatever (push_spot bit object)
pushes_spot b bit object below = record {
  by = λ p le h. (
    omega arith,
    record {
      targets = h.targets;
      objects = h.objects;
      spots =
          each_pushed (λ k. IsBelow (length p.locations) k.object) p.spots (record { bit = bit; object = object }) h.spots
          (below_more b (length p.locations) le object below);
    },
    tt,
  );
}

pub counts_spots : (b : ℕ) → Lays b Whatever spots_now
counts_spots b = record { by = λ p le h. (omega arith, h, tt) }

pub looks_occurrence : (b k : ℕ) → Lays b (λ o n. IsBelow n o.object) (occurrence_now k)
looks_occurrence b k = record {
  by = λ p le h. (
    omega arith,
    h,
    at_index (λ o. IsBelow (length p.locations) o.object) no_occurrence tt p.occurrences h.objects k,
  );
}

pub puts_occurrence : (b k : ℕ) (o : Occurrence) → IsBelow b o.object → Lays b Whatever (put_occurrence k o)
puts_occurrence b k o below = record {
  by = λ p le h. (
    omega arith,
    record {
      targets = h.targets;
      objects =
          each_set (λ j. IsBelow (length p.locations) j.object) p.occurrences k o h.objects
          (below_more b (length p.locations) le o.object below);
      spots = h.spots;
    },
    tt,
  );
}
