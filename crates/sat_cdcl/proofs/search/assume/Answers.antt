-- Each assumed literal in turn.
use Rattle.std.proofs.Common.{refl, sym, subst, ◌∙◌}
use Rattle.sat_trail.specs.Steps.{AllTrue}
use Rattle.sat_cdcl.proofs.SearchLemmas.{assumed_more, assumed_fails}
use Rattle.sat_cdcl.proofs.search.assume.Goals as goal

pub loop-lit-init : goal.loop-lit-init
loop-lit-init c = record { vars = refl; holds = λ f h. subst (AllTrue f) (sym c.requires) tt }

pub returns-then-not-assume_one-clause-assumed : goal.returns-then-not-assume_one-clause-assumed
returns-then-not-assume_one-clause-assumed c =
    assumed_fails c.args.assumed.now c.loop-lit.lit-index _ c.loop-lit.trail c.loop-lit-test.true c.loop-lit.invariant.holds c.if-not-assume_one.ensures.assumed

pub loop-lit-preserved : goal.loop-lit-preserved
loop-lit-preserved c = record {
  vars = c.if-not-assume_one.ensures.vars ∙ c.loop-lit.invariant.vars;
  holds = assumed_more c.args.assumed.now c.loop-lit.lit-index _ c.loop-lit.trail c.assume_one.new.trail c.loop-lit-test.true c.loop-lit.invariant.holds
      c.if-not-assume_one.ensures.assumed;
}
