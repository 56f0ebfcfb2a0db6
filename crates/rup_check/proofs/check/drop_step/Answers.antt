-- The clause that was found, or none.
use Rattle.std.proofs.Common.{List, Option, sym, subst}
use Rattle.sat_base.specs.declared.literal.Lit.{Lit}
use Rattle.sat_base.specs.Certificates.{TakesOut}
use Rattle.rup_check.specs.Stored.{present, StoredBelow, IsFound, IsNowhere}
use Rattle.std.proofs.lemmas.Option.{MatchOption-at_some, MatchOption-at_none}
use Rattle.rup_check.proofs.StoredLemmas.{takes_out, takes_nothing, below_set}
use Rattle.rup_check.proofs.check.drop_step.Goals as goal

pub returns-in-None-clause-dropped : goal.returns-in-None-clause-dropped
returns-in-None-clause-dropped c =
    takes_nothing c.args.store.now c.args.clause.now
    (MatchOption-at_none (IsNowhere c.args.store.now c.args.clause.now) (IsFound c.args.store.now c.args.clause.now) c.in-None.is c.in_ok-find.ensures.found)

pub returns-in-Some-clause-stored : goal.returns-in-Some-clause-stored
returns-in-Some-clause-stored c =
    subst (λ (es : List (Option (List Lit))). StoredBelow c.args.marks.now.vars es) (sym c.take_out.ensures)
    (below_set c.args.marks.now.vars c.in-Some.id c.args.store.now c.requires.stored)

pub returns-in-Some-clause-dropped : goal.returns-in-Some-clause-dropped
returns-in-Some-clause-dropped c =
    subst (λ (es : List (Option (List Lit))). TakesOut (present c.args.store.now) c.args.clause.now (present es)) (sym c.take_out.ensures)
    (takes_out c.args.store.now c.args.clause.now c.in-Some.id
    (MatchOption-at_some (IsNowhere c.args.store.now c.args.clause.now) (IsFound c.args.store.now c.args.clause.now) c.in-Some.id c.in-Some.is
    c.in_ok-find.ensures.found))
