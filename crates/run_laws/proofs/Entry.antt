-- The world at entry is proper.
use Rattle.std.proofs.Common.{◌≡◌, ℕ, zero, suc, ◌+◌, ◌≤◌, ◌<◌, Bool, true, false, List, [], ◌∷◌, ◌++◌, map, length, refl, sym, ap, ◌∙◌, arith}
use Rattle.std.specs.Prelude.{Option, Some, None, IfSome, slice_index_or, if◌then◌else◌}
use Rattle.std.specs.List.{AllByRecursion}
use Rattle.std.proofs.lemmas.Bool.{true≢false}
use Rattle.fsm_spec.specs.Table.{IsWhole, bits_of_states}
use Rattle.run_store.specs.Concrete.{Cell, Number, Kind, Numbers, Pointers, NoCell, Place, kind_of, blank, nth_cell}
use Rattle.sc_world.specs.Source.{Source}
use Rattle.sc_world.specs.Layout.{Layout, Location, location, is_there, nowhere}
use Rattle.sc_world.specs.World.{bit_at, number_at, null, target_of, target_or_null, kind_of_type, entry_value, entry_cell, states, entry_state_at, entry_place, state_place, state_width, entry_world}
use Rattle.run_laws.specs.Proper.{IsClosed, IsProper}
use Rattle.run_laws.proofs.Calls.{number_names}

all_at : {X : Type 0} (Q : X → Type 0) (d : X) (xs : List X) → ((k : ℕ) → Q (slice_index_or xs k d)) → AllByRecursion Q xs
all_at Q d [] f = tt
all_at Q d (x ∷ xs) f = (f zero, all_at Q d xs (λ k. f (suc k)))

abbrev Within : ℕ → Place → Type 0
Within m q = target_of q.cell ≤ m

nth_within : (m : ℕ) (ps : List Place) → AllByRecursion (Within m) ps → (k : ℕ) → target_of (nth_cell ps k) ≤ m
nth_within m [] all k = omega arith
nth_within m (q ∷ ps) (h, hs) zero = h
nth_within m (q ∷ ps) (h, hs) (suc k) = nth_within m ps hs k

all_behind : (m : ℕ) (ps qs : List Place) → AllByRecursion (Within m) ps → AllByRecursion (Within m) qs
    → AllByRecursion (Within m) (ps ++ qs)
all_behind m [] qs h i = i
all_behind m (p ∷ ps) qs (h, hs) i = (h, all_behind m ps qs hs i)

-- cells at entry

if_within : (m : ℕ) (b : Bool) (c d : Cell) → target_of c ≤ m → target_of d ≤ m → target_of (if b then c else d) ≤ m
if_within m true c d h i = h
if_within m false c d h i = i

own_within : (m : ℕ) (own : Option ℕ) → IfSome own (λ to. to < m) → target_of (target_or_null own) ≤ m
own_within m None h = omega arith
own_within m (Some at) h = omega (arith, h)

blank_within : (m : ℕ) (k : Kind) → target_of (blank k) ≤ m
blank_within m (Numbers w) = omega arith
blank_within m Pointers = omega arith
blank_within m NoCell = omega arith

value_within : (m : ℕ) (choice : List Bool) (k : Kind) (bit own : Option ℕ) → IfSome own (λ to. to < m)
    → target_of (entry_value choice k bit own) ≤ m
value_within m choice k None own h = blank_within m k
value_within m choice (Numbers w) (Some at) own h = omega arith
value_within m choice Pointers (Some at) own h =
    if_within m (bit_at choice at) (target_or_null own) null (own_within m own h) (omega arith)
value_within m choice NoCell (Some at) own h = omega arith

if_kind : (k : Kind) (b : Bool) (c d : Cell) → kind_of c ≡ k → kind_of d ≡ k → kind_of (if b then c else d) ≡ k
if_kind k true c d h i = h
if_kind k false c d h i = i

own_kind : (own : Option ℕ) → kind_of (target_or_null own) ≡ Pointers
own_kind None = refl
own_kind (Some at) = refl

pub blank_kind : (k : Kind) → kind_of (blank k) ≡ k
blank_kind (Numbers w) = refl
blank_kind Pointers = refl
blank_kind NoCell = refl

value_kind : (choice : List Bool) (k : Kind) (bit own : Option ℕ) → kind_of (entry_value choice k bit own) ≡ k
value_kind choice k None own = blank_kind k
value_kind choice (Numbers w) (Some at) own = refl
value_kind choice Pointers (Some at) own =
    if_kind Pointers (bit_at choice at) (target_or_null own) null (own_kind own) refl
value_kind choice NoCell (Some at) own = refl

module _ (s : Source) (choice : List Bool) where
  front : (ls : List Location) (rest : List Place) (at : ℕ) → at < length ls
      → nth_cell (map (entry_place s choice) ls ++ rest) at ≡ entry_cell s choice (slice_index_or ls at nowhere)
  front [] rest at h = absurd (omega (arith, h))
  front (l ∷ ls) rest zero h = refl
  front (l ∷ ls) rest (suc at) h = front ls rest at (omega (arith, h))

  behind : (ls : List Location) (rest : List Place) (at k : ℕ) → k ≡ length ls + at
      → nth_cell (map (entry_place s choice) ls ++ rest) k ≡ nth_cell rest at
  behind [] rest at k e =
      let same : k ≡ at = omega (arith, e) in ap (nth_cell rest) same
  behind (l ∷ ls) rest at zero e = absurd (omega (arith, e))
  behind (l ∷ ls) rest at (suc k) e = behind ls rest at k (omega (arith, e))

  state_cell : (ls : List Location) (at : ℕ) → at < length ls
      → nth_cell (map (state_place s choice) ls) at ≡ Number state_width (entry_state_at s choice (slice_index_or ls at nowhere).state)
  state_cell [] at h = absurd (omega (arith, h))
  state_cell (l ∷ ls) zero h = refl
  state_cell (l ∷ ls) (suc at) h = state_cell ls at (omega (arith, h))

  pub state_known : IsWhole s.machine → (o : Option ℕ) → is_there o ≡ true → entry_state_at s choice o < states s
  state_known whole None h = absurd (true≢false (sym h))
  state_known whole (Some at) h =
      number_names _ (states s) (number_at choice at (bits_of_states (states s))) (omega (arith, whole.least_states)) refl

  long : (ls : List Location) → length (map (entry_place s choice) ls ++ map (state_place s choice) ls) ≡ length ls + length ls
  long ls = long_of ls (map (state_place s choice) ls) ∙ ap (λ n. length ls + n) (long_states ls)
    where
      long_of : (ks : List Location) (rest : List Place) → length (map (entry_place s choice) ks ++ rest) ≡ length ks + length rest
      long_of [] rest = omega arith
      long_of (k ∷ ks) rest = ap suc (long_of ks rest) ∙ omega arith

      long_states : (ks : List Location) → length (map (state_place s choice) ks) ≡ length ks
      long_states [] = refl
      long_states (k ∷ ks) = ap suc (long_states ks)

  entries_within : (m : ℕ) (ls : List Location) → AllByRecursion (λ l. IfSome l.target (λ to. to < m)) ls
      → AllByRecursion (Within m) (map (entry_place s choice) ls)
  entries_within m [] all = tt
  entries_within m (l ∷ ls) (h, hs) = (value_within m choice (kind_of_type s l.type) l.bit l.target h, entries_within m ls hs)

  states_within : (m : ℕ) (ls : List Location) → AllByRecursion (Within m) (map (state_place s choice) ls)
  states_within m [] = tt
  states_within m (l ∷ ls) = (omega arith, states_within m ls)

  pub entry_proper : (p : Layout) → IsWhole s.machine → IsClosed p → IsProper s p (entry_world s p choice)
  entry_proper p whole closed = record {
    long = long p.locations;
    inside = λ k.
        nth_within (length p.locations) (map (entry_place s choice) p.locations ++ map (state_place s choice) p.locations)
        (all_behind (length p.locations) (map (entry_place s choice) p.locations) (map (state_place s choice) p.locations)
        (entries_within (length p.locations) p.locations
        (all_at (λ l. IfSome l.target (λ to. to < length p.locations)) nowhere p.locations closed.targets))
        (states_within (length p.locations) p.locations)) k;
    kinds = λ k less.
        ap kind_of (front p.locations (map (state_place s choice) p.locations) k less)
        ∙ value_kind choice (kind_of_type s (location p k).type) (location p k).bit (location p k).target;
    states = λ k less. (
      entry_state_at s choice (location p k).state,
      behind p.locations (map (state_place s choice) p.locations) k (length p.locations + k) refl
          ∙ state_cell p.locations k less,
      state_known whole (location p k).state,
    );
  }
