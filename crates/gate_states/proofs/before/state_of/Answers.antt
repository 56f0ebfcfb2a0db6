use Rattle.std.proofs.Common.{arith}
use Rattle.bit_net.proofs.Growth.{Grown-refl, Grown-trans}
use Rattle.gl_sets.proofs.GuardLemmas.{guard_below}
use Rattle.run_world.specs.Seen as seen
use Rattle.gate_states.proofs.Reading.{states_none, states_step, states_all}
use Rattle.gate_states.proofs.before.state_of.Goals as goal

pub loop-pair-init : goal.loop-pair-init
loop-pair-init c =
    record {
      grown = Grown-refl _;
      so_far = states_none (seen.env c.args.here.now).layout _ c.args.store.now.locations.items c.args.pairs.now _ c.in_ok-state.ensures;
    }

pub state_where-requires-clause-guard : goal.state_where-requires-clause-guard
state_where-requires-clause-guard c =
    omega (
      arith,
      guard_below c.args.pairs.now c.loop-pair.pair-index record { guard = record { at = 0 }; target = 0 } c.loop-pair-test.true,
      c.requires.pairs,
      c.loop-pair.invariant.grown.longer,
    )

pub loop-pair-preserved : goal.loop-pair-preserved
loop-pair-preserved c =
    record {
      grown = Grown-trans _ _ _ c.loop-pair.invariant.grown c.in_ok-next.ensures.grown;
      so_far =
          states_step (seen.env c.args.here.now).layout _ _ c.args.store.now.locations.items c.args.pairs.now c.loop-pair.pair-index _ _ _ c.loop-pair-test.true
          c.in_ok-next.ensures.grown c.loop-pair.invariant.so_far c.in_ok-next.ensures.ok;
    }

pub returns-clause-ok : goal.returns-clause-ok
returns-clause-ok c =
    states_all (seen.env c.args.here.now).layout _ c.args.store.now.locations.items c.args.pairs.now c.loop-pair.pair-index _ c.loop-pair-test.false
    c.loop-pair.invariant.so_far
