-- A clause more.
use Rattle.std.proofs.Common.{List, Option, sym, subst, ap, ◌∙◌}
use Rattle.sat_base.specs.declared.literal.Lit.{Lit}
use Rattle.rup_check.specs.Stored.{present, StoredBelow}
use Rattle.rup_check.proofs.StoredLemmas.{present-push, below_push}
use Rattle.rup_check.proofs.check.add_clause.Goals as goal

pub returns-clause-stored : goal.returns-clause-stored
returns-clause-stored c =
    subst (λ (es : List (Option (List Lit))). StoredBelow c.args.marks.now.vars es) (sym c.in_ok-id.ensures.1)
    (below_push c.args.marks.now.vars c.args.store.now c.args.clause.now c.requires.stored c.requires.clause)

pub returns-clause-added : goal.returns-clause-added
returns-clause-added c = ap present c.in_ok-id.ensures.1 ∙ present-push c.args.store.now c.args.clause.now
