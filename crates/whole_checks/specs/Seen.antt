-- What is checked, and what a check says, as plain data.
use Rattle.sc_check.specs.Typed.{Sources}
use Rattle.whole_checks.specs.declared.said.Said.{Said as Code}
use Rattle.whole_checks.specs.declared.said.Said.TheVariants as code
use Rattle.whole_checks.specs.declared.sources.Sources.{Sources as Given}
use Rattle.whole_checks.specs.Said.{Said, Whole, Twice, Beyond}

abbrev pub said : Code → Said
said (code.Whole bytes reported) = Whole bytes.items reported
said (code.Twice name) = Twice name.items
said (code.Beyond kind count) = Beyond kind count

abbrev pub sources : Given → Sources
sources s = record { names = s.names; files = s.files; units = s.units.now; widths = s.widths; machine = s.machine }
