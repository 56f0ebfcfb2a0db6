use Rattle.std.proofs.Common.{refl, ◌∙◌, arith}
use Rattle.bit_net.proofs.Growth.{Grown-refl, Grown-trans}
use Rattle.gl_sets.proofs.GuardLemmas.{guard_below}
use Rattle.gate_fails.proofs.Ending.{fails_all, fails_none, fails_step}
use Rattle.gate_fails.proofs.failing.fail_each.Goals as goal

pub loop-pair-init : goal.loop-pair-init
loop-pair-init c = record { grown = Grown-refl _; ready = c.requires.ends; bads = refl; so_far = fails_none _ c.args.pairs.now c.args.ends.now }

pub fail_target-requires-clause-guard : goal.fail_target-requires-clause-guard
fail_target-requires-clause-guard c =
    omega (
      arith,
      guard_below c.args.pairs.now c.loop-pair.pair-index record { guard = record { at = 0 }; target = 0 } c.loop-pair-test.true,
      c.requires.guards,
      c.loop-pair.invariant.grown.longer,
    )

pub loop-pair-preserved : goal.loop-pair-preserved
loop-pair-preserved c =
    let step = c.in_ok-fail_target.ensures in
    record {
      grown = Grown-trans _ _ _ c.loop-pair.invariant.grown step.grown;
      ready = step.ready;
      bads = step.locations ∙ c.loop-pair.invariant.bads;
      so_far = fails_step _ _ c.loop-pair.pair-index c.args.pairs.now _ _ _ _ c.loop-pair-test.true step.grown c.loop-pair.invariant.so_far step.ok;
    }

pub returns-clause-ok : goal.returns-clause-ok
returns-clause-ok c = fails_all _ c.loop-pair.pair-index c.args.pairs.now _ _ c.loop-pair-test.false c.loop-pair.invariant.so_far
