-- What contracts see of the data of the code: as what the definitions are made of.
use Rattle.std.specs.Prelude.{Option, Some, None, map}
use Rattle.sc_gather.specs.Seen.{source_of, found, call}
use Rattle.sc_world.specs.Tree.{Ty, Void}
use Rattle.sc_world.specs.Objects as objects
use Rattle.sc_world.specs.Layout as layouts
use Rattle.sc_world.specs.Programs.{member}
use Rattle.sc_world.specs.View.{type}
use Rattle.layout_base.specs.declared.ground.Ground.{Ground}
use Rattle.layout_base.specs.declared.ground.Parts.{Parts}
use Rattle.layout_base.specs.declared.ground.Parts.TheVariants as parts
use Rattle.layout_base.specs.declared.layout.Chosen.{Chosen}
use Rattle.layout_base.specs.declared.layout.Chosen.TheVariants as chosen
use Rattle.layout_base.specs.declared.layout.Kind.{Kind}
use Rattle.layout_base.specs.declared.layout.Kind.TheVariants as kind
use Rattle.layout_base.specs.declared.layout.Location.{Location}
use Rattle.layout_base.specs.declared.layout.Occurrence.{Occurrence}
use Rattle.layout_base.specs.declared.layout.Places.{Places}
use Rattle.layout_base.specs.declared.layout.Spot.{Spot}

unfoldable pub ground_of : Ground → objects.Ground
ground_of g = record { source = source_of g.here.now; found = found g.found.now }

abbrev pub chosen_of : Chosen → objects.Chosen
chosen_of chosen.Nothing = objects.Nothing
chosen_of chosen.Cells = objects.Cells
chosen_of chosen.CellsAndStates = objects.CellsAndStates

abbrev pub parts_of : Parts → objects.Parts
parts_of parts.NoParts = objects.NoParts
parts_of (parts.Elements n t) = objects.Elements n (type t.now)
parts_of (parts.Members fs) = objects.Members (map member fs.now)

abbrev pub type_of : Kind → Option Ty
type_of kind.Stub = None
type_of kind.Void = Some Void
type_of (kind.Of t) = Some (type t.now)

abbrev pub location_of : Location → layouts.Location
location_of l =
    record { type = type_of l.kind; origin = l.origin; root = l.root; bit = l.bit; state = l.state; target = l.target }

abbrev pub occurrence_of : Occurrence → layouts.Occurrence
occurrence_of o = record { site = o.site; object = o.object; bit = o.bit; spot = o.spot }

abbrev pub spot_of : Spot → layouts.Spot
spot_of s = record { bit = s.bit; object = s.object }

unfoldable pub layout_of : Places → layouts.Layout
layout_of p =
    record {
      locations = map location_of p.locations.items;
      sites = map call p.sites.items;
      occurrences = map occurrence_of p.occurrences.items;
      spots = map spot_of p.spots.items;
      bits = p.bits;
    }
