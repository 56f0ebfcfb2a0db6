-- What contracts see of what texts read.
use Rattle.std.specs.Prelude.{[]}
use Rattle.sc_world.specs.declared.run.Origin.{Origin}
use Rattle.sc_world.specs.declared.run.Origin.TheVariants as origin
use Rattle.sc_world.specs.Paths as paths
use Rattle.program_verdicts.specs.Verdicts as verdicts
use Rattle.layout_base.specs.Seen.{layout_of}
use Rattle.location_texts.specs.declared.texts.Texts.{Texts}

abbrev pub texts : Texts → paths.Texts
texts t = verdicts.texts t.program.now t.function.now (layout_of t.places.now)

abbrev pub no_text : paths.Spelled
no_text = paths.spelled []

-- the text of a location that is not reached from another one; no text of one that is
abbrev pub begun : paths.Texts → Origin → paths.Spelled
begun x (origin.Target at) = no_text
begun x (origin.Part at s) = no_text
begun x o = paths.spelled_from x (λ at. no_text) o
