use Rattle.std.proofs.Common.{arith}
use Rattle.bit_net.proofs.Growth.{Grown-refl, Grown-trans}
use Rattle.gl_sets.proofs.GuardLemmas.{guard_below}
use Rattle.gate_paths.proofs.Meeting.{met_init, met_step, is_meet}
use Rattle.gate_paths.proofs.alias.meet.Goals as goal

pub loop-pair-init : goal.loop-pair-init
loop-pair-init c = record { grown = Grown-refl _; so_far = met_init _ c.args.a.now c.args.b.now.pairs.items _ c.constant-some.ensures }

pub or_meet-requires-clause-pair : goal.or_meet-requires-clause-pair
or_meet-requires-clause-pair c =
    omega (
      arith,
      guard_below c.args.a.now c.loop-pair.pair-index record { guard = record { at = 0 }; target = 0 } c.loop-pair-test.true,
      c.requires.a,
      c.loop-pair.invariant.grown.longer,
    )

pub loop-pair-preserved : goal.loop-pair-preserved
loop-pair-preserved c =
    let grown = c.in_ok-more.ensures.grown in
    record {
      grown = Grown-trans _ _ _ c.loop-pair.invariant.grown grown;
      so_far =
          met_step _ _ c.args.a.now c.args.b.now.pairs.items c.loop-pair.pair-index _ c.loop-pair.some.at c.in_ok-more.more.at c.loop-pair-test.true grown
          c.loop-pair.invariant.so_far c.in_ok-more.ensures.ok;
    }

pub returns-clause-ok : goal.returns-clause-ok
returns-clause-ok c = is_meet _ c.args.a.now c.args.b.now.pairs.items c.loop-pair.pair-index _ c.loop-pair-test.false c.loop-pair.invariant.so_far
