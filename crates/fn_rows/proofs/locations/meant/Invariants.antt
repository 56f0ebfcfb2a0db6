use Rattle.std.proofs.Common.{◌≡◌, take}
use Rattle.std.specs.Prelude.{filter}
use Rattle.sc_world.specs.Layout.{location}
use Rattle.layout_base.specs.Seen.{layout_of}
use Rattle.fn_rows.specs.Outer.{is_meant}
use Rattle.fn_rows.proofs.locations.meant.Given as goal

abbrev pub invariant-loop-at : goal.invariant-loop-at
invariant-loop-at l = l.found.items ≡ filter (λ at. is_meant l.which (location (layout_of l.places) at)) (take l.at-index l.at-items)
