-- One number after the other.
use Rattle.std.proofs.Common.{sym, ◌∙◌, arith}
use Rattle.std.proofs.lemmas.Bool.{false≢true}
use Rattle.rup_check.proofs.StoredLemmas.{nowhere_more, nowhere_all}
use Rattle.rup_check.proofs.find.find_among_all.Goals as goal

pub loop-id-preserved : goal.loop-id-preserved
loop-id-preserved c = record {
  same = c.is_found.ensures.vars ∙ c.loop-id.invariant.same;
  none = nowhere_more c.args.store.now c.args.clause.now c.loop-id.id (λ h. false≢true (sym c.if-branch.false ∙ c.in_ok-is_found.ensures.found.1 h))
      c.loop-id.invariant.none;
}

pub returns-clause-found : goal.returns-clause-found
returns-clause-found c =
    let over = c.loop-id-test.false in
    let last = c.count-id-end.ensures in
    nowhere_all c.args.store.now c.args.clause.now c.loop-id.id (omega (arith, over, last)) c.loop-id.invariant.none
