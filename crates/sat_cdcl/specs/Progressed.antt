-- What a turn of the search came to.

use Rattle.std.specs.Prelude.{List}
use Rattle.sat_base.specs.declared.literal.Lit.{Lit}
use Rattle.sat_cdcl.specs.declared.conflict.Progress.{Progress}
use Rattle.sat_cdcl.specs.declared.conflict.Progress.TheVariants.{Rose, Found, Exhausted}
use Rattle.sat_trail.specs.Steps.{TrailState}
use Rattle.sat_cdcl.specs.Answered.{HasNone, IsModel, AllFollow, Rises}

abbrev pub IsProgress : List (List Lit) → List Lit → TrailState → TrailState → Progress → Type 0
IsProgress clauses assumed old new Rose = Rises clauses assumed old new
IsProgress clauses assumed old new (Found values) = IsModel old.vars clauses assumed values.items
IsProgress clauses assumed old new Exhausted = AllFollow clauses assumed old.steps → HasNone clauses assumed
