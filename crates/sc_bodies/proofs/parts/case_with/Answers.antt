use Rattle.sc_bodies.specs.Around.{inside_of}
use Rattle.sc_bodies.proofs.Cases.{case_given}
use Rattle.sc_bodies.proofs.parts.case_with.Goals as goal

pub returns-in-Some-clause-typed : goal.returns-in-Some-clause-typed
unfolding inside_of
returns-in-Some-clause-typed c =
    case_given c.args.e c.in-Some.e c.widths.result _ c.args.at _ c.args.walk.now _ _
    c.in-Some.is c.widths.ensures c.case_as.ensures.typed
