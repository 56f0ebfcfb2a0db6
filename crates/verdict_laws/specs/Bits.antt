-- Which bits of the choice each thing of a layout has: a cell, a state at entry, a call in one turn, and what a call's
-- choice says of one item or written path of its callee.
use Rattle.std.specs.Prelude.{◌≡◌, ℕ, ◌+◌, nat_eq, nat_lt, nat_le, Bool, true, false, ◌&&◌, Option, Some, None, List, [], ◌∷◌, ◌++◌, slice_index_or, if◌then◌else◌}
use Rattle.std.specs.List.{flat_map}
use Rattle.sum_rows.specs.declared.row.Item.{Item}
use Rattle.sum_rows.specs.declared.row.Item.TheVariants as item
use Rattle.sum_rows.specs.declared.row.ItemRows.{ItemRows}
use Rattle.sum_rows.specs.declared.row.Summary.{Summary}
use Rattle.sum_rows.specs.declared.row.Write.{Write}
use Rattle.sc_world.specs.Tree.{is_integer, is_pointer, int_bits}
use Rattle.sc_world.specs.Source.{Source, Effect, Try, Allocate, Known, Unknown, sum_at}
use Rattle.sc_world.specs.Gather.{Site}
use Rattle.sc_world.specs.Layout.{Layout, Location, Occurrence, Spot, no_site, no_spot}
use Rattle.sc_world.specs.Objects.{cell_bits, state_bits, type_or_void}
use Rattle.sc_world.specs.Occurrences.{is_out_path}

-- some bits of the choice: the first of them, and how many
pub record Bits : Type 0 where
  pub first : ℕ
  pub width : ℕ

abbrev pub has_bit : ℕ → Bits → Bool
has_bit k b = nat_le b.first k && nat_lt k (b.first + b.width)

abbrev pub one_if : Bool → ℕ
one_if true = 1
one_if false = 0

-- how many of some things have the bit
abbrev pub how_many : ℕ → List Bits → ℕ
how_many k [] = 0
how_many k (b ∷ bs) = one_if (has_bit k b) + how_many k bs

-- each bit below a number belongs to exactly one of some things, and none of them has another bit
abbrev pub EachOfOne : ℕ → List Bits → Type 0
EachOfOne n bs = (k : ℕ) → how_many k bs ≡ one_if (nat_lt k n)

abbrev pub bits_from : Option ℕ → ℕ → List Bits
bits_from None width = []
bits_from (Some b) width = record { first = b; width = width } ∷ []

module _ (s : Source) where
  -- a location: its cell, and its state at entry
  abbrev pub location_bits : Location → List Bits
  location_bits l = bits_from l.bit (cell_bits s (type_or_void l.type)) ++ bits_from l.state (state_bits s)

  -- the bits that choose what a call gives: an integer, or which pointer
  abbrev pub result_width : Site → (pointer_width : ℕ) → ℕ
  result_width x n = if is_integer x.result then int_bits s.widths x.result else (if is_pointer x.result then n else 0)

  abbrev pub own_width : Site → Effect → ℕ
  own_width x (Try a b) = 1
  own_width x (Allocate zeroed) = 1
  own_width x (Known n) = result_width x 2
  own_width x Unknown = result_width x 1
  own_width x _ = 0

  -- What the choice says of the items and written paths of a known call's callee.

  -- whether its operation errs there, and the state afterwards
  abbrev pub lock_width : Item → List ℕ
  lock_width (item.Lock p) = (1 + state_bits s) ∷ []
  lock_width _ = []

  abbrev pub param_width : Item → List ℕ
  param_width (item.Param n) = 2 ∷ []
  param_width _ = []

  abbrev pub out_width : Item → List ℕ
  out_width (item.Out n) = 2 ∷ []
  out_width _ = []

  -- a number, or whether a pointer is null
  abbrev pub write_width : List ItemRows → Write → List ℕ
  write_width items x = if is_out_path items x.path then [] else (if nat_eq x.width 0 then 1 else x.width) ∷ []

  abbrev pub widths_of : Option Summary → List ℕ
  widths_of None = []
  widths_of (Some sum) =
      flat_map (λ (x : ItemRows). lock_width x.item) sum.items
      ++ (flat_map (λ (x : ItemRows). param_width x.item) sum.items
      ++ (flat_map (λ (x : ItemRows). out_width x.item) sum.items ++ flat_map (write_width sum.items) sum.writes))

  abbrev pub spot_widths : Effect → List ℕ
  spot_widths (Known n) = widths_of (sum_at s n)
  spot_widths _ = []

  -- the spots from one on, of these widths
  abbrev pub spot_bits : List Spot → (at : ℕ) → List ℕ → List Bits
  spot_bits spots at [] = []
  spot_bits spots at (w ∷ ws) = record { first = (slice_index_or spots at no_spot).bit; width = w } ∷ spot_bits spots (at + 1) ws

  abbrev pub call_bits : List Spot → Occurrence → Site → List Bits
  call_bits spots o x =
      record { first = o.bit; width = own_width x x.effect } ∷ spot_bits spots o.spot (spot_widths x.effect)

  -- a call in one turn, and its spots
  abbrev pub occurrence_bits : List Site → List Spot → Occurrence → List Bits
  occurrence_bits sites spots o = call_bits spots o (slice_index_or sites o.site no_site)

  -- all things of a layout
  abbrev pub things : Layout → List Bits
  things p = flat_map location_bits p.locations ++ flat_map (occurrence_bits p.sites p.spots) p.occurrences
