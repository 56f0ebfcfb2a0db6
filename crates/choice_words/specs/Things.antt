-- What a choice speaks of, thing by thing: of each thing its first bit, and how its bits are read.
--
-- First the locations in their order: the cell of each, where the choice gives that, and its state at entry. Then the calls
-- in their order, each in each turn of the loops round it: what it gives; and of a known call what it does to each item and
-- to each other written cell of its callee's summary. What has no bit is no thing.
use Rattle.std.specs.Prelude.{ℕ, ◌+◌, nat_eq, Bool, true, false, Option, Some, None, List, [], ◌∷◌, ◌++◌, slice_index_or, if◌then◌else◌}
use Rattle.sc_typed.specs.Kinds.{is_signed, kind_bits}
use Rattle.sum_rows.specs.declared.row.Item.{Item}
use Rattle.sum_rows.specs.declared.row.ItemRows.{ItemRows}
use Rattle.sum_rows.specs.declared.row.Summary.{Summary}
use Rattle.sum_rows.specs.declared.row.Write.{Write}
use Rattle.sc_world.specs.Tree.{Ty, Bool', Int, Ptr}
use Rattle.sc_world.specs.Source.{Source, Effect, Try, Allocate, Known, Unknown, sum_at}
use Rattle.sc_world.specs.Gather.{Site}
use Rattle.sc_world.specs.Layout.{Layout, Location, Occurrence, no_site, spot_at}
use Rattle.sc_world.specs.Occurrences.{is_out_path}
use Rattle.run_paths.specs.declared.gathered.Sort.{Sort}
use Rattle.run_paths.specs.declared.gathered.Sort.TheVariants as sort
use Rattle.run_paths.specs.Seen.{is_of}
use Rattle.choice_words.specs.declared.subjects.Subject.{Subject}
use Rattle.choice_words.specs.declared.subjects.Subject.TheVariants as subject
use Rattle.choice_words.specs.declared.subjects.Reading.{Reading}
use Rattle.choice_words.specs.declared.subjects.Reading.TheVariants as reading
use Rattle.choice_words.specs.declared.subjects.Thing.{Thing}
use Rattle.choice_words.specs.declared.parts.Part.{Part}
use Rattle.choice_words.specs.declared.parts.Part.TheVariants as part

abbrev pub thing : Subject → (bit : ℕ) → Reading → Thing
thing x bit r = record { of = x; bit = bit; reading = r }

-- a thing, if its bits can be read
abbrev pub thing_if : Subject → (bit : ℕ) → Option Reading → List Thing
thing_if x bit None = []
thing_if x bit (Some r) = thing x bit r ∷ []

-- a thing, if it has a bit too
abbrev pub thing_from : Subject → Option ℕ → Option Reading → List Thing
thing_from x None r = []
thing_from x (Some bit) r = thing_if x bit r

-- Of a known call's callee the parts that the choice speaks of, in the order of their spots: the locations among its items,
-- the objects of parameters, the pointers that parameters point to, the other written cells.

abbrev pub item_part : Sort → (i : ℕ) → Item → List Part
item_part sort i x = if is_of sort x then part.Item sort i ∷ [] else []

-- the items of a sort, the first item having the number i
abbrev pub item_parts : Sort → (i : ℕ) → List ItemRows → List Part
item_parts sort i [] = []
item_parts sort i (x ∷ xs) = item_part sort i x.item ++ item_parts sort (i + 1) xs

-- a written cell that is no pointer behind a parameter with an item of its own
abbrev pub write_part : List ItemRows → (j : ℕ) → Write → List Part
write_part items j w =
    if is_out_path items w.path then [] else (if nat_eq w.width 0 then part.Pointer j else part.Number j w.width) ∷ []

abbrev pub write_parts : List ItemRows → (j : ℕ) → List Write → List Part
write_parts items j [] = []
write_parts items j (w ∷ ws) = write_part items j w ++ write_parts items (j + 1) ws

unfoldable pub parts_of : Summary → List Part
parts_of sum =
    item_parts sort.Lock 0 sum.items
    ++ (item_parts sort.Param 0 sum.items ++ (item_parts sort.Out 0 sum.items ++ write_parts sum.items 0 sum.writes))

abbrev pub parts_if : Option Summary → List Part
parts_if None = []
parts_if (Some sum) = parts_of sum

-- what becomes of an item
abbrev pub item_reading : Sort → (object : Option ℕ) → Reading
item_reading sort.Lock object = reading.StateAfter
item_reading sort.Param object = reading.Fate
item_reading sort.Out object = reading.Pointed object

-- a part of the callee of the call with that number, with its spot's first bit and object
abbrev pub part_thing : (call : ℕ) → (bit : ℕ) → (object : Option ℕ) → Part → Thing
part_thing k bit object (part.Item sort i) = thing (subject.Item k i) bit (item_reading sort object)
part_thing k bit object (part.Number j width) = thing (subject.Write k j) bit (reading.Number width false)
part_thing k bit object (part.Pointer j) = thing (subject.Write k j) bit (reading.Pointer object)

-- the parts of a callee, the first of them having that spot
abbrev pub part_things : Layout → (call : ℕ) → (spot : ℕ) → List Part → List Thing
part_things p k n [] = []
part_things p k n (x ∷ xs) = part_thing k (spot_at p n).bit (spot_at p n).object x ∷ part_things p k (n + 1) xs

module _ (s : Source) where
  -- A value of a type: a number, or a pointer, which is read as it is told; no other type has values.
  abbrev pub value_reading : Ty → (pointer : Reading) → Option Reading
  value_reading Bool' pointer = Some (reading.Number 1 false)
  value_reading (Int k) pointer = Some (reading.Number (kind_bits s.widths k) (is_signed k))
  value_reading (Ptr t) pointer = Some pointer
  value_reading _ pointer = None

  -- Locations.

  abbrev pub cell_reading : Option Ty → (own : Option ℕ) → Option Reading
  cell_reading None own = None
  cell_reading (Some t) own = value_reading t (reading.Pointer own)

  abbrev pub location_things : (at : ℕ) → Location → List Thing
  location_things at l =
      thing_from (subject.Cell at) l.bit (cell_reading l.type l.target)
      ++ thing_from (subject.State at) l.state (Some reading.State)

  -- locations, the first of them having the number `at`
  abbrev pub locations_things : (at : ℕ) → List Location → List Thing
  locations_things at [] = []
  locations_things at (l ∷ ls) = location_things at l ++ locations_things (at + 1) ls

  -- Calls.

  -- what a call itself does, with the type of its result and its object: whether it succeeds, or what it gives
  abbrev pub own_reading : Ty → (object : Option ℕ) → Effect → Option Reading
  own_reading t object (Try a b) = Some reading.Success
  own_reading t object (Allocate zeroed) = Some (reading.Pointer object)
  own_reading t object (Known n) = value_reading t (reading.Given object)
  own_reading t object Unknown = value_reading t (reading.Pointer object)
  own_reading t object _ = None

  abbrev pub known_parts : Effect → List Part
  known_parts (Known n) = parts_if (sum_at s n)
  known_parts _ = []

  abbrev pub call_things : Layout → (k : ℕ) → Occurrence → Site → List Thing
  call_things p k o x =
      thing_if (subject.Call k) o.bit (own_reading x.result o.object x.effect) ++ part_things p k o.spot (known_parts x.effect)

  -- a call in one turn
  abbrev pub occurrence_things : Layout → (k : ℕ) → Occurrence → List Thing
  occurrence_things p k o = call_things p k o (slice_index_or p.sites o.site no_site)

  -- calls, the first of them having the number k
  abbrev pub occurrences_things : Layout → (k : ℕ) → List Occurrence → List Thing
  occurrences_things p k [] = []
  occurrences_things p k (o ∷ os) = occurrence_things p k o ++ occurrences_things p (k + 1) os

  unfoldable pub things : Layout → List Thing
  things p = locations_things 0 p.locations ++ occurrences_things p 0 p.occurrences
