-- What contracts see of a call that is found.
use Rattle.std.specs.Prelude.{Option, Some, None}
use Rattle.sc_gather.specs.declared.found.Site.{Site}
use Rattle.sc_gather.specs.Seen.{call}
use Rattle.sc_world.specs.Gather as gather
use Rattle.sc_world.specs.Layout as layouts
use Rattle.sc_world.specs.Layout.{no_site}
use Rattle.layout_lookup.specs.declared.placed.Placed.{Placed}

-- a call that is not there stands for one without effect
abbrev pub site : Option Site → gather.Site
site None = no_site
site (Some s) = call s

abbrev pub placed : Placed → layouts.Placed
placed p = record { site = site p.site; first = p.first }
