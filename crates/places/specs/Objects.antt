-- What contracts see of what stands behind a pointer cell.
use Rattle.sc_world.specs.Objects as objects
use Rattle.layout_base.specs.Seen.{chosen_of}
use Rattle.places.specs.declared.objects.Behind.{Behind}
use Rattle.places.specs.declared.objects.Behind.TheVariants as behind

abbrev pub behind_of : Behind → objects.Behind
behind_of (behind.Object c) = objects.Object (chosen_of c)
behind_of behind.Stub = objects.Stub
