use Rattle.std.proofs.Common.{◌≡◌, map, drop}
use Rattle.std.specs.HashMap.{get}
use Rattle.layout_base.specs.Seen.{location_of}
use Rattle.layout_lookup.specs.declared.key.Key.{Key}
use Rattle.layout_lookup.specs.Firsts.{or_else, first_of}
use Rattle.layout_lookup.specs.Keys.{same_key}
use Rattle.layout_lookup.specs.Tables.{has_key, HasFewElements}
use Rattle.layout_lookup.proofs.tables.locations_by_key.Given as goal

-- what the table does not have is the first of the rest
abbrev pub invariant-loop-location : goal.invariant-loop-location
invariant-loop-location l =
    record {
      rest :
          (q : Key) → first_of (has_key q) 0 (map location_of l.locations)
          ≡ or_else (get same_key l.table q) (first_of (has_key q) l.at (map location_of (drop l.location-index l.locations)));
      few : HasFewElements (get same_key l.table);
    }
