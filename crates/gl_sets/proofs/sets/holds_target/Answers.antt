use Rattle.std.proofs.Common.{ap, ◌∙◌, sym, refl}
use Rattle.gl_sets.specs.Guards.{has_target}
use Rattle.gl_sets.proofs.GuardLemmas.{has_target_at, still_missing}
use Rattle.gl_sets.proofs.sets.holds_target.Goals as goal

pub returns-then-pair-target : goal.returns-then-pair-target
returns-then-pair-target c = sym (ap (has_target c.args.pairs.now) (sym c.if-pair-target.true) ∙ has_target_at c.args.pairs.now c.loop-pair.pair-index _ c.loop-pair-test.true)

pub loop-pair-preserved : goal.loop-pair-preserved
loop-pair-preserved c = still_missing _ _ c.loop-pair.pair-index _ c.args.target refl c.loop-pair-test.true c.loop-pair.invariant c.if-pair-target.false
