-- What became of the step.
use Rattle.std.proofs.Common.{refl, sym, subst}
use Rattle.sat_cdcl.specs.Answered.{IsAssumedOne}
use Rattle.sat_cdcl.proofs.SearchLemmas.{assumed_put}
use Rattle.sat_cdcl.proofs.search.assume_one.Goals as goal

pub returns-clause-assumed : goal.returns-clause-assumed
returns-clause-assumed c =
    subst (IsAssumedOne c.args.lit c.args.trail.now c.put-put.new.self) (sym c.assumed_from.ensures)
    (assumed_put c.args.lit c.args.trail.now c.put-put.new.self c.len-len.result _ c.put-put.result c.len-len.ensures.len refl c.put-put.ensures.put)
