-- With the locations that are left the things are whole.
use Rattle.std.proofs.Common.{◌≡◌, ◌++◌, drop, map}
use Rattle.layout_base.specs.Seen.{ground_of, location_of}
use Rattle.choice_words.specs.Things.{locations_things}
use Rattle.choice_words.proofs.locations.put_locations.Given as goal

abbrev pub invariant-loop-location : goal.invariant-loop-location
invariant-loop-location l =
    l.things.items ++ locations_things (ground_of l.ground).source l.at (map location_of (drop l.location-index l.locations))
    ≡ l.fn.things.items ++ locations_things (ground_of l.fn.ground).source 0 (map location_of l.fn.locations)
