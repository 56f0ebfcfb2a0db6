use Rattle.std.proofs.Common.{refl, ◌∙◌, arith}
use Rattle.bit_net.proofs.Growth.{Grown-refl, Grown-trans}
use Rattle.gl_sets.proofs.GuardLemmas.{guard_below}
use Rattle.gate_acts.proofs.Operating.{each_none, each_step, each_whole}
use Rattle.gate_acts.proofs.operations.operate_each.Goals as goal

pub loop-pair-init : goal.loop-pair-init
loop-pair-init c = record { grown = Grown-refl _; ready = c.requires.ends; bads = refl; so_far = each_none _ _ _ c.args.operation _ c.args.pairs.now _ _ c.requires.store }

pub operate_target-requires-clause-guard : goal.operate_target-requires-clause-guard
operate_target-requires-clause-guard c =
    omega (arith, guard_below c.args.pairs.now c.loop-pair.pair-index record { guard = record { at = 0 }; target = 0 } c.loop-pair-test.true, c.requires.guards, c.loop-pair.invariant.grown.longer)

pub loop-pair-preserved : goal.loop-pair-preserved
loop-pair-preserved c =
    let step = c.in_ok-operate_target.ensures in
    record {
      grown = Grown-trans _ _ _ c.loop-pair.invariant.grown step.grown;
      ready = step.ready;
      bads = step.locations ∙ c.loop-pair.invariant.bads;
      so_far = each_step _ _ _ _ c.args.operation _ c.loop-pair.pair-index c.args.pairs.now _ _ _ _ _ _ _ c.loop-pair-test.true step.grown c.loop-pair.invariant.so_far _ c.loop-pair.invariant.bads step.ok;
    }

pub returns-clause-ok : goal.returns-clause-ok
returns-clause-ok c = each_whole _ _ _ c.args.operation _ c.loop-pair.pair-index c.args.pairs.now _ _ _ _ c.loop-pair-test.false c.loop-pair.invariant.so_far
