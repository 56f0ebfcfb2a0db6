-- The function whose steps are made, and its layout.
use Rattle.sc_world.specs.Source.{Source}
use Rattle.sc_world.specs.Layout.{Layout}
use Rattle.layout_base.specs.Seen as laid
use Rattle.tr_flow.specs.declared.stepping.Stepping.{Stepping}

abbrev pub source_of : Stepping → Source
source_of x = (laid.ground_of x.given).source

abbrev pub layout_of : Stepping → Layout
layout_of x = laid.layout_of x.layout.now.places.now
