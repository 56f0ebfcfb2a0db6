-- A store in a list, as contracts see it.
use Rattle.std.proofs.Common.{◌≡◌, ℕ, ◌≤◌, List, map, length, sym, ap, ◌∙◌}
use Rattle.std.specs.Prelude.{slice_set}
use Rattle.std.proofs.lemmas.List.{map-set, set_past}
use Rattle.layout_base.specs.declared.layout.Location.{Location}
use Rattle.layout_base.specs.declared.layout.Occurrence.{Occurrence}
use Rattle.layout_base.specs.Seen.{location_of, occurrence_of}

pub location_put : (xs : List Location) (at : ℕ) (l : Location) → map location_of (slice_set xs at l) ≡ slice_set (map location_of xs) at (location_of l)
location_put xs at l = map-set location_of xs at l

pub occurrence_put : (xs : List Occurrence) (k : ℕ) (o : Occurrence)
    → map occurrence_of (slice_set xs k o) ≡ slice_set (map occurrence_of xs) k (occurrence_of o)
occurrence_put xs k o = map-set occurrence_of xs k o

map_past : {X Y : Type 0} (f : X → Y) (xs : List X) (i : ℕ) (x : X) → length xs ≤ i → slice_set (map f xs) i (f x) ≡ map f xs
map_past f xs i x h = sym (map-set f xs i x) ∙ ap (map f) (set_past xs i x h)

-- a store beyond the end changes nothing
pub location_past : (xs : List Location) (at : ℕ) (l : Location) → length xs ≤ at → slice_set (map location_of xs) at (location_of l) ≡ map location_of xs
location_past xs at l h = map_past location_of xs at l h

pub occurrence_past : (xs : List Occurrence) (k : ℕ) (o : Occurrence) → length xs ≤ k
    → slice_set (map occurrence_of xs) k (occurrence_of o) ≡ map occurrence_of xs
occurrence_past xs k o h = map_past occurrence_of xs k o h
