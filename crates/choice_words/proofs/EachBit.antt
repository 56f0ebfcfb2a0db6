-- Each bit of a layout is spoken of once: the things of which a choice speaks have the bits of the things of the layout, but
-- for those that have none.
use Rattle.std.proofs.Common.{◌≡◌, ◌≤◌, ◌<◌, ℕ, zero, suc, ◌+◌, nat_eq, Bool, true, false, ◌&&◌, Option, Some, None, List, [], ◌∷◌, ◌++◌, map, refl, sym, ap, ◌∙◌, ◌⊎◌, inl, inr, ⊎_elim, true≢false, arith}
use Rattle.std.specs.Prelude.{nat_le, nat_lt, slice_index_or, if◌then◌else◌}
use Rattle.std.specs.List.{flat_map}
use Rattle.std.proofs.lemmas.Bool.{cases_lt, lt-leb, le-ltb}
use Rattle.std.proofs.lemmas.List.{map-append}
use Rattle.sum_rows.specs.declared.row.Item.{Item}
use Rattle.sum_rows.specs.declared.row.Item.TheVariants as item
use Rattle.sum_rows.specs.declared.row.ItemRows.{ItemRows}
use Rattle.sum_rows.specs.declared.row.Summary.{Summary}
use Rattle.sum_rows.specs.declared.row.Write.{Write}
use Rattle.sc_world.specs.Tree.{Ty, Void, Bool', Int, Ptr, Array, Struct, Union, Func, Opaque, is_integer, is_pointer, int_bits}
use Rattle.sc_world.specs.Source.{Source, Effect, Operation, Try, Allocate, Release, Ends, Expect, Known, Unknown, sum_at}
use Rattle.sc_world.specs.Gather.{Site}
use Rattle.sc_world.specs.Layout.{Layout, Location, Occurrence, Spot, no_site, no_spot}
use Rattle.sc_world.specs.Objects.{cell_bits, state_bits, type_or_void}
use Rattle.sc_world.specs.Occurrences.{is_out_path}
use Rattle.run_paths.specs.declared.gathered.Sort.{Sort}
use Rattle.run_paths.specs.declared.gathered.Sort.TheVariants as sort
use Rattle.verdict_laws.specs.Bits as laws
use Rattle.verdict_laws.specs.Bits.{Bits, has_bit, one_if, how_many, EachOfOne}
use Rattle.choice_words.specs.declared.subjects.Subject.{Subject}
use Rattle.choice_words.specs.declared.subjects.Subject.TheVariants as subject
use Rattle.choice_words.specs.declared.subjects.Reading.{Reading}
use Rattle.choice_words.specs.declared.subjects.Reading.TheVariants as reading
use Rattle.choice_words.specs.declared.subjects.Thing.{Thing}
use Rattle.choice_words.specs.declared.parts.Part.{Part}
use Rattle.choice_words.specs.declared.parts.Part.TheVariants as part
use Rattle.choice_words.specs.Things.{thing_if, thing_from, item_part, item_parts, write_part, write_parts, parts_of, parts_if, part_thing, part_things, value_reading, cell_reading, location_things, locations_things, own_reading, known_parts, call_things, occurrence_things, occurrences_things, things}
use Rattle.choice_words.specs.Bits.{width_of, bits_of}

both : (a b c d : List ℕ) → a ≡ b → c ≡ d → a ++ c ≡ b ++ d
both a b c d e f = ap (λ x. x ++ c) e ∙ ap (λ y. b ++ y) f

-- Counting.

many-append : (k : ℕ) (xs ys : List Bits) → how_many k (xs ++ ys) ≡ how_many k xs + how_many k ys
many-append k [] ys = omega arith
many-append k (x ∷ xs) ys = omega (arith, many-append k xs ys)

none_if : (x y : Bool) → (x ≡ false) ⊎ (y ≡ false) → one_if (x && y) ≡ 0
none_if false y h = refl
none_if true false h = refl
none_if true true (inl h) = absurd (true≢false h)
none_if true true (inr h) = absurd (true≢false h)

-- where there is no width there is no bit
none_there : (k b : ℕ) → one_if (has_bit k (record { first = b; width = 0 })) ≡ 0
none_there k b =
    ⊎_elim
    (λ (less : k < b). none_if (nat_le b k) (nat_lt k (b + 0)) (inl (lt-leb b k less)))
    (λ (past : b ≤ k). none_if (nat_le b k) (nat_lt k (b + 0)) (inr (le-ltb k (b + 0) (omega (arith, past)))))
    (cases_lt k b)

no_width : (k b : ℕ) → how_many k (record { first = b; width = 0 } ∷ []) ≡ 0
no_width k b = omega (arith, none_there k b)

module _ (s : Source) (k : ℕ) where
  -- how many of some things have the bit
  abbrev spoken : List Thing → ℕ
  spoken ts = how_many k (map (bits_of s) ts)

  spoken-append : (xs ys : List Thing) → spoken (xs ++ ys) ≡ spoken xs + spoken ys
  spoken-append xs ys = ap (how_many k) (map-append (bits_of s) xs ys) ∙ many-append k (map (bits_of s) xs) (map (bits_of s) ys)

  -- Values: with a pointer that has n bits.

  abbrev value_width : Ty → (n : ℕ) → ℕ
  value_width t n = if is_integer t then int_bits s.widths t else (if is_pointer t then n else 0)

  value_spoken : (x : Subject) (b : ℕ) (t : Ty) (r : Reading) (n : ℕ) → width_of s r ≡ n
      → spoken (thing_if x b (value_reading s t r)) ≡ how_many k (record { first = b; width = value_width t n } ∷ [])
  value_spoken x b Void r n e = sym (no_width k b)
  value_spoken x b Bool' r n e = refl
  value_spoken x b (Int i) r n e = refl
  value_spoken x b (Ptr t) r n e = ap (λ w. how_many k (record { first = b; width = w } ∷ [])) e
  value_spoken x b (Array t l) r n e = sym (no_width k b)
  value_spoken x b (Struct m) r n e = sym (no_width k b)
  value_spoken x b (Union m) r n e = sym (no_width k b)
  value_spoken x b (Func t known ts v) r n e = sym (no_width k b)
  value_spoken x b (Opaque o) r n e = sym (no_width k b)

  -- Locations.

  cell_width : (t : Ty) → value_width t 1 ≡ cell_bits s t
  cell_width Void = refl
  cell_width Bool' = refl
  cell_width (Int i) = refl
  cell_width (Ptr t) = refl
  cell_width (Array t l) = refl
  cell_width (Struct m) = refl
  cell_width (Union m) = refl
  cell_width (Func t known ts v) = refl
  cell_width (Opaque o) = refl

  cell_spoken : (x : Subject) (bit : Option ℕ) (t : Option Ty) (own : Option ℕ)
      → spoken (thing_from x bit (cell_reading s t own)) ≡ how_many k (laws.bits_from bit (cell_bits s (type_or_void t)))
  cell_spoken x None t own = refl
  cell_spoken x (Some b) None own = sym (no_width k b)
  cell_spoken x (Some b) (Some t) own =
      value_spoken x b t (reading.Pointer own) 1 refl ∙ ap (λ w. how_many k (record { first = b; width = w } ∷ [])) (cell_width t)

  state_spoken : (x : Subject) (bit : Option ℕ)
      → spoken (thing_from x bit (Some reading.State)) ≡ how_many k (laws.bits_from bit (state_bits s))
  state_spoken x None = refl
  state_spoken x (Some b) = refl

  location_spoken : (at : ℕ) (l : Location) → spoken (location_things s at l) ≡ how_many k (laws.location_bits s l)
  location_spoken at l =
      omega (
        arith,
        spoken-append (thing_from (subject.Cell at) l.bit (cell_reading s l.type l.target))
            (thing_from (subject.State at) l.state (Some reading.State)),
        cell_spoken (subject.Cell at) l.bit l.type l.target,
        state_spoken (subject.State at) l.state,
        many-append k (laws.bits_from l.bit (cell_bits s (type_or_void l.type))) (laws.bits_from l.state (state_bits s)),
      )

  locations_spoken : (at : ℕ) (ls : List Location)
      → spoken (locations_things s at ls) ≡ how_many k (flat_map (laws.location_bits s) ls)
  locations_spoken at [] = refl
  locations_spoken at (l ∷ ls) =
      omega (
        arith,
        spoken-append (location_things s at l) (locations_things s (at + 1) ls),
        location_spoken at l,
        locations_spoken (at + 1) ls,
        many-append k (laws.location_bits s l) (flat_map (laws.location_bits s) ls),
      )

  -- Parts of a callee.

  abbrev part_width : Part → ℕ
  part_width (part.Item sort.Lock i) = 1 + state_bits s
  part_width (part.Item sort.Param i) = 2
  part_width (part.Item sort.Out i) = 2
  part_width (part.Number j w) = w
  part_width (part.Pointer j) = 1

  widths-append : (xs ys : List Part) → map part_width (xs ++ ys) ≡ map part_width xs ++ map part_width ys
  widths-append xs ys = map-append part_width xs ys

  lock_width : (i : ℕ) (x : Item) → map part_width (item_part sort.Lock i x) ≡ laws.lock_width s x
  lock_width i item.Exit = refl
  lock_width i (item.Lock path) = refl
  lock_width i (item.Param n) = refl
  lock_width i (item.Out n) = refl

  param_width : (i : ℕ) (x : Item) → map part_width (item_part sort.Param i x) ≡ laws.param_width s x
  param_width i item.Exit = refl
  param_width i (item.Lock path) = refl
  param_width i (item.Param n) = refl
  param_width i (item.Out n) = refl

  out_width : (i : ℕ) (x : Item) → map part_width (item_part sort.Out i x) ≡ laws.out_width s x
  out_width i item.Exit = refl
  out_width i (item.Lock path) = refl
  out_width i (item.Param n) = refl
  out_width i (item.Out n) = refl

  items_widths : (o : Sort) (width : Item → List ℕ) → ((i : ℕ) (x : Item) → map part_width (item_part o i x) ≡ width x)
      → (i : ℕ) (xs : List ItemRows) → map part_width (item_parts o i xs) ≡ flat_map (λ (x : ItemRows). width x.item) xs
  items_widths o width each i [] = refl
  items_widths o width each i (x ∷ xs) =
      widths-append (item_part o i x.item) (item_parts o (i + 1) xs)
      ∙ both _ _ _ _ (each i x.item) (items_widths o width each (i + 1) xs)

  write_by : (out pointer : Bool) (j n : ℕ)
      → map part_width (if out then [] else (if pointer then part.Pointer j else part.Number j n) ∷ [])
      ≡ if out then [] else (if pointer then 1 else n) ∷ []
  write_by true pointer j n = refl
  write_by false true j n = refl
  write_by false false j n = refl

  write_widths : (items : List ItemRows) (j : ℕ) (ws : List Write)
      → map part_width (write_parts items j ws) ≡ flat_map (laws.write_width s items) ws
  write_widths items j [] = refl
  write_widths items j (w ∷ ws) =
      widths-append (write_part items j w) (write_parts items (j + 1) ws)
      ∙ both _ _ _ _ (write_by (is_out_path items w.path) (nat_eq w.width 0) j w.width) (write_widths items (j + 1) ws)

  parts_widths : (sum : Option Summary) → map part_width (parts_if sum) ≡ laws.widths_of s sum
  unfolding parts_of
  parts_widths None = refl
  parts_widths (Some sum) =
      let items = sum.items in
      let locks = item_parts sort.Lock 0 items in
      let params = item_parts sort.Param 0 items in
      let outs = item_parts sort.Out 0 items in
      let writes = write_parts items 0 sum.writes in
      widths-append locks (params ++ (outs ++ writes))
      ∙ both _ _ _ _ (items_widths sort.Lock (laws.lock_width s) lock_width 0 items)
      (widths-append params (outs ++ writes)
      ∙ both _ _ _ _ (items_widths sort.Param (laws.param_width s) param_width 0 items)
      (widths-append outs writes
      ∙ both _ _ _ _ (items_widths sort.Out (laws.out_width s) out_width 0 items)
      (write_widths items 0 sum.writes)))

  known_widths : (e : Effect) → map part_width (known_parts s e) ≡ laws.spot_widths s e
  known_widths (Operation n) = refl
  known_widths (Try a b) = refl
  known_widths (Allocate zeroed) = refl
  known_widths Release = refl
  known_widths Ends = refl
  known_widths Expect = refl
  known_widths (Known n) = parts_widths (sum_at s n)
  known_widths Unknown = refl

  -- the bits of a part at its spot
  part_bits : (call b : ℕ) (object : Option ℕ) (x : Part)
      → bits_of s (part_thing call b object x) ≡ record { first = b; width = part_width x }
  part_bits call b object (part.Item sort.Lock i) = refl
  part_bits call b object (part.Item sort.Param i) = refl
  part_bits call b object (part.Item sort.Out i) = refl
  part_bits call b object (part.Number j w) = refl
  part_bits call b object (part.Pointer j) = refl

  parts_bits : (p : Layout) (call spot : ℕ) (xs : List Part)
      → map (bits_of s) (part_things p call spot xs) ≡ laws.spot_bits s p.spots spot (map part_width xs)
  parts_bits p call spot [] = refl
  parts_bits p call spot (x ∷ xs) =
      let here = slice_index_or p.spots spot no_spot in
      ap (λ b. b ∷ map (bits_of s) (part_things p call (spot + 1) xs)) (part_bits call here.bit here.object x)
      ∙ ap (λ bs. record { first = here.bit; width = part_width x } ∷ bs) (parts_bits p call (spot + 1) xs)

  -- Calls.

  own_spoken : (x : Subject) (b : ℕ) (c : Site) (object : Option ℕ) (e : Effect)
      → spoken (thing_if x b (own_reading s c.result object e)) ≡ how_many k (record { first = b; width = laws.own_width s c e } ∷ [])
  own_spoken x b c object (Operation n) = sym (no_width k b)
  own_spoken x b c object (Try m n) = refl
  own_spoken x b c object (Allocate zeroed) = refl
  own_spoken x b c object Release = sym (no_width k b)
  own_spoken x b c object Ends = sym (no_width k b)
  own_spoken x b c object Expect = sym (no_width k b)
  own_spoken x b c object (Known n) = value_spoken x b c.result (reading.Given object) 2 refl
  own_spoken x b c object Unknown = value_spoken x b c.result (reading.Pointer object) 1 refl

  call_spoken : (p : Layout) (n : ℕ) (o : Occurrence) (c : Site)
      → spoken (call_things s p n o c) ≡ how_many k (laws.call_bits s p.spots o c)
  call_spoken p n o c =
      let own : Bits = record { first = o.bit; width = laws.own_width s c c.effect } in
      let spots = laws.spot_bits s p.spots o.spot (laws.spot_widths s c.effect) in
      let parts = part_things p n o.spot (known_parts s c.effect) in
      let same : spoken parts ≡ how_many k spots =
      ap (how_many k) (parts_bits p n o.spot (known_parts s c.effect) ∙ ap (laws.spot_bits s p.spots o.spot) (known_widths c.effect))
      in
      omega (
        arith,
        spoken-append (thing_if (subject.Call n) o.bit (own_reading s c.result o.object c.effect)) parts,
        own_spoken (subject.Call n) o.bit c o.object c.effect,
        same,
        many-append k (own ∷ []) spots,
      )

  occurrences_spoken : (p : Layout) (n : ℕ) (os : List Occurrence)
      → spoken (occurrences_things s p n os) ≡ how_many k (flat_map (laws.occurrence_bits s p.sites p.spots) os)
  occurrences_spoken p n [] = refl
  occurrences_spoken p n (o ∷ os) =
      omega (
        arith,
        spoken-append (occurrence_things s p n o) (occurrences_things s p (n + 1) os),
        call_spoken p n o (slice_index_or p.sites o.site no_site),
        occurrences_spoken p (n + 1) os,
        many-append k (laws.occurrence_bits s p.sites p.spots o) (flat_map (laws.occurrence_bits s p.sites p.spots) os),
      )

  -- a choice speaks of what a layout has
  pub things_spoken : (p : Layout) → how_many k (map (bits_of s) (things s p)) ≡ how_many k (laws.things s p)
  unfolding things
  things_spoken p =
      omega (
        arith,
        spoken-append (locations_things s 0 p.locations) (occurrences_things s p 0 p.occurrences),
        locations_spoken 0 p.locations,
        occurrences_spoken p 0 p.occurrences,
        many-append k (flat_map (laws.location_bits s) p.locations) (flat_map (laws.occurrence_bits s p.sites p.spots) p.occurrences),
      )

pub each_is_spoken : (s : Source) (p : Layout) → EachOfOne p.bits (laws.things s p) → EachOfOne p.bits (map (bits_of s) (things s p))
each_is_spoken s p each k = things_spoken s k p ∙ each k
