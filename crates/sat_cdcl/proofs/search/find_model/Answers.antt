-- The assumed literals, and then the turns.
use Rattle.std.proofs.Common.{sym, subst}
use Rattle.sat_base.specs.Logic.{ClausesBelow, LitsBelow}
use Rattle.sat_cdcl.proofs.SearchLemmas.{none_assumed, follow_assumed}
use Rattle.sat_cdcl.proofs.search.find_model.Goals as goal

pub returns-then-not-assume-clause-found : goal.returns-then-not-assume-clause-found
returns-then-not-assume-clause-found c = none_assumed c.args.search.now.clauses.given c.args.assumed.now c.if-not-assume.ensures.assumed

pub run-requires : goal.run-requires
run-requires c = record {
  clauses = subst (λ n. ClausesBelow n c.args.search.now.clauses.given) (sym c.if-not-assume.ensures.vars) c.requires.clauses;
  assumed = subst (λ n. LitsBelow n c.args.assumed.now) (sym c.if-not-assume.ensures.vars) c.requires.assumed;
  follow = follow_assumed c.args.search.now.clauses.given c.args.assumed.now _ c.if-not-assume.ensures.assumed;
}
