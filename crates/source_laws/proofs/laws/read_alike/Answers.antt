-- By the law on layouts.
use Rattle.source_laws.proofs.Judged.{verdict_same}
use Rattle.source_laws.proofs.Programs.{given_same}
use Rattle.source_laws.proofs.laws.read_alike.Goals as goal

pub returns-clause-tables : goal.returns-clause-tables
returns-clause-tables c old new s params globals locals front agree below =
    verdict_same c.locations_are_right.ensures old new front s agree params globals locals below

pub returns-clause-verdicts : goal.returns-clause-verdicts
returns-clause-verdicts c earlier later g f depth reach vs alike few =
    given_same c.locations_are_right.ensures earlier later g f depth reach vs alike few
