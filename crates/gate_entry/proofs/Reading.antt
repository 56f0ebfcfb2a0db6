-- What locations read of a choice, where no thing has a bit beyond those of the layout.
use Rattle.std.proofs.Common.{◌≡◌, ◌⊎◌, ℕ, ◌+◌, ◌<◌, ◌≤◌, Bool, true, false, nat_lt, ◌&&◌, Option, Some, None, IfSome, List, [], ◌∷◌, ◌++◌, All, inl, inr, ◌∙◌, ap, arith, if◌then◌else◌, lt-ltb, le-leb}
use Rattle.std.specs.List.{AllByRecursion, flat_map}
use Rattle.std.proofs.lemmas.Bool.{cases_lt, le-ltb}
use Rattle.std.proofs.lemmas.List.Elements.{All-from_recursion}
use Rattle.run_store.specs.Concrete.{Numbers, Pointers, NoCell}
use Rattle.sc_world.specs.Tree.{Ty, is_integer, is_pointer, int_bits}
use Rattle.sc_world.specs.Source.{Source}
use Rattle.sc_world.specs.Layout.{Layout, Location}
use Rattle.sc_world.specs.World.{kind_of_type}
use Rattle.sc_world.specs.Objects.{cell_bits, state_bits, type_or_void}
use Rattle.verdict_laws.specs.Bits.{Bits, EachOfOne, has_bit, one_if, how_many, bits_from, location_bits, occurrence_bits, things}
use Rattle.verdict_laws.proofs.Tiles.{many_append}
use Rattle.gate_entry.specs.Entry.{AreWithin, ReadsWithin, bits_of}

-- none of some things has a bit that is not below n
NoneBeyond : ℕ → List Bits → Type 0
NoneBeyond n bs = (k : ℕ) → n ≤ k → how_many k bs ≡ 0

none_front : (n : ℕ) (as' bs : List Bits) → NoneBeyond n (as' ++ bs) → NoneBeyond n as'
unfolding NoneBeyond
none_front n as' bs h k high = omega (arith, many_append k as' bs, h k high)

none_back : (n : ℕ) (as' bs : List Bits) → NoneBeyond n (as' ++ bs) → NoneBeyond n bs
unfolding NoneBeyond
none_back n as' bs h k high = omega (arith, many_append k as' bs, h k high)

-- the bits of an option
one_of : (b more w : ℕ) → more < w → how_many (b + more) (record { first = b; width = w } ∷ []) ≡ 1
one_of b more w low =
    let from : has_bit (b + more) (record { first = b; width = w }) ≡ true =
    ap (λ t. t && nat_lt (b + more) (b + w)) (le-leb b (b + more) (omega arith)) ∙ lt-ltb (b + more) (b + w) (omega arith) in
    ap (λ t. one_if t + 0) from

some_within : (p : Layout) (b w width : ℕ) → width ≤ w → NoneBeyond p.bits (record { first = b; width = w } ∷ []) → AreWithin p b width
unfolding NoneBeyond
some_within p b w width less none k low = by (cases_lt (b + k) p.bits)
  where
    by : (b + k < p.bits) ⊎ (p.bits ≤ b + k) → b + k < p.bits
    by (inl fits) = fits
    by (inr high) = let one : how_many (b + k) (record { first = b; width = w } ∷ []) ≡ 1 = one_of b k w (omega arith) in absurd (omega (arith, one, none (b + k) high))

if_within : (p : Layout) (o : Option ℕ) (w width : ℕ) → width ≤ w → NoneBeyond p.bits (bits_from o w) → IfSome o (λ at. AreWithin p at width)
if_within p None w width less none = tt
if_within p (Some b) w width less none = some_within p b w width less none

-- a cell has no more bits than its type
kind_bits_by : (pointer integer : Bool) (w : ℕ) → bits_of (if pointer then Pointers else (if integer then Numbers w else NoCell)) ≤ (if pointer then 1 else w)
kind_bits_by true integer w = omega arith
kind_bits_by false true w = omega arith
kind_bits_by false false w = omega arith

kind_bits_few : (s : Source) (o : Option Ty) → bits_of (kind_of_type s o) ≤ cell_bits s (type_or_void o)
kind_bits_few s None = omega arith
kind_bits_few s (Some t) = kind_bits_by (is_pointer t) (is_integer t) (int_bits s.widths t)

reads_within : (s : Source) (p : Layout) (l : Location) → NoneBeyond p.bits (location_bits s l) → ReadsWithin s p l
reads_within s p l none =
    record {
      cell =
          if_within p l.bit (cell_bits s (type_or_void l.type)) (bits_of (kind_of_type s l.type)) (kind_bits_few s l.type)
          (none_front p.bits (bits_from l.bit (cell_bits s (type_or_void l.type))) (bits_from l.state (state_bits s)) none);
      state =
          if_within p l.state (state_bits s) (state_bits s) (omega arith)
          (none_back p.bits (bits_from l.bit (cell_bits s (type_or_void l.type))) (bits_from l.state (state_bits s)) none);
    }

each_within : (s : Source) (p : Layout) (ls : List Location) → NoneBeyond p.bits (flat_map (location_bits s) ls) → AllByRecursion (ReadsWithin s p) ls
each_within s p [] none = tt
each_within s p (l ∷ ls) none = (
  reads_within s p l (none_front p.bits (location_bits s l) (flat_map (location_bits s) ls) none),
  each_within s p ls (none_back p.bits (location_bits s l) (flat_map (location_bits s) ls) none),
)

pub all_within : (s : Source) (p : Layout) → EachOfOne p.bits (things s p) → All (ReadsWithin s p) p.locations
unfolding NoneBeyond
all_within s p each =
    let none : NoneBeyond p.bits (things s p) = λ k high. each k ∙ ap one_if (le-ltb k p.bits high) in
    All-from_recursion (ReadsWithin s p) p.locations
    (each_within s p p.locations
    (none_front p.bits (flat_map (location_bits s) p.locations) (flat_map (occurrence_bits s p.sites p.spots) p.occurrences) none))
