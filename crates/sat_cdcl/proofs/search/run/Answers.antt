-- Each turn makes the trail rise.
use Rattle.std.proofs.Common.{sym, subst, ◌∙◌}
use Rattle.sat_base.specs.Logic.{ClausesBelow, LitsBelow}
use Rattle.sat_cdcl.specs.declared.conflict.Progress.TheVariants.{Rose, Found, Exhausted}
use Rattle.sat_cdcl.specs.Progressed.{IsProgress}
use Rattle.sat_cdcl.specs.Answered.{IsModel, HasNone, AllFollow}
use Rattle.sat_cdcl.proofs.SearchLemmas.{rises_smaller}
use Rattle.sat_cdcl.proofs.search.run.Goals as goal

pub proceed-requires : goal.proceed-requires
proceed-requires c = record {
  clauses = subst (ClausesBelow c.loop-progress.search.trail.vars) (sym c.loop-progress.invariant.given)
      (subst (λ n. ClausesBelow n c.args.search.now.clauses.given) (sym c.loop-progress.invariant.vars) c.requires.clauses);
  assumed = subst (λ n. LitsBelow n c.args.assumed.now) (sym c.loop-progress.invariant.vars) c.requires.assumed;
}

pub returns-in-Found-clause-found : goal.returns-in-Found-clause-found
returns-in-Found-clause-found c =
    let model : IsProgress c.loop-progress.search.clauses.given c.args.assumed.now c.loop-progress.search.trail c.proceed.new.search.trail (Found c.in-Found.values) =
    rw c.in-Found.is at c.in_ok-progress.ensures.progress in
    subst (λ cs. IsModel c.args.search.now.trail.vars cs c.args.assumed.now c.in-Found.values.items) c.loop-progress.invariant.given
    (subst (λ n. IsModel n c.loop-progress.search.clauses.given c.args.assumed.now c.in-Found.values.items) c.loop-progress.invariant.vars model)

pub returns-in-Exhausted-clause-found : goal.returns-in-Exhausted-clause-found
returns-in-Exhausted-clause-found c =
    let none : IsProgress c.loop-progress.search.clauses.given c.args.assumed.now c.loop-progress.search.trail c.proceed.new.search.trail Exhausted =
    rw c.in-Exhausted.is at c.in_ok-progress.ensures.progress in
    subst (λ cs. HasNone cs c.args.assumed.now) c.loop-progress.invariant.given (none c.loop-progress.invariant.follow)

pub loop-progress-preserved : goal.loop-progress-preserved
loop-progress-preserved c =
    let rose : IsProgress c.loop-progress.search.clauses.given c.args.assumed.now c.loop-progress.search.trail c.proceed.new.search.trail Rose =
    rw c.in-Rose.is at c.in_ok-progress.ensures.progress in
    record {
      vars = rose.vars ∙ c.loop-progress.invariant.vars;
      given = c.in_ok-progress.ensures.given ∙ c.loop-progress.invariant.given;
      follow = subst (λ cs. AllFollow cs c.args.assumed.now c.proceed.new.search.trail.steps) (sym c.in_ok-progress.ensures.given)
          (rose.follows c.loop-progress.invariant.follow);
    }

pub loop-progress-smaller : goal.loop-progress-smaller
loop-progress-smaller c =
    let rose : IsProgress c.loop-progress.search.clauses.given c.args.assumed.now c.loop-progress.search.trail c.proceed.new.search.trail Rose =
    rw c.in-Rose.is at c.in_ok-progress.ensures.progress in
    rises_smaller c.loop-progress.search.clauses.given c.args.assumed.now _ _ rose
