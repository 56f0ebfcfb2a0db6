use Rattle.std.proofs.Common.{arith}
use Rattle.bit_net.proofs.Growth.{Grown-refl, Grown-trans}
use Rattle.gl_sets.proofs.GuardLemmas.{guard_below}
use Rattle.gl_store.proofs.StoreLemmas.{loaded_none, loaded_step, loaded_whole}
use Rattle.gl_store.proofs.stores.load_from.Goals as goal

pub loop-pair-init : goal.loop-pair-init
loop-pair-init c = record { grown = Grown-refl _; so_far = loaded_none _ _ _ _ _ c.in_ok-found.ensures }

pub read_where-requires-clause-pair : goal.read_where-requires-clause-pair
read_where-requires-clause-pair c =
    omega (arith, guard_below c.args.at.now c.loop-pair.pair-index record { guard = record { at = 0 }; target = 0 } c.loop-pair-test.true, c.requires.at, c.loop-pair.invariant.grown.longer)

pub loop-pair-preserved : goal.loop-pair-preserved
loop-pair-preserved c = record {
  grown = Grown-trans _ _ _ c.loop-pair.invariant.grown c.in_ok-read_where.ensures.grown;
  so_far = loaded_step _ _ c.args.locations.now c.args.at.now c.loop-pair.pair-index _ _ _ _ c.loop-pair-test.true c.in_ok-read_where.ensures.grown c.in_ok-read_where.ensures.ok c.loop-pair.invariant.so_far;
}

pub returns-clause-ok : goal.returns-clause-ok
returns-clause-ok c = loaded_whole _ c.args.locations.now c.args.at.now c.loop-pair.pair-index _ _ c.loop-pair-test.false c.loop-pair.invariant.so_far
