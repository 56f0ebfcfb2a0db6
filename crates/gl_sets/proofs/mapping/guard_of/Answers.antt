use Rattle.std.proofs.Common.{arith}
use Rattle.bit_net.proofs.Growth.{Grown-refl, Grown-trans}
use Rattle.gl_sets.proofs.GuardLemmas.{guard_below}
use Rattle.gl_sets.proofs.MoveLemmas.{guard_none, guard_step, guard_whole}
use Rattle.gl_sets.proofs.mapping.guard_of.Goals as goal

pub loop-i-init : goal.loop-i-init
loop-i-init c = record {
  grown = Grown-refl _;
  below = c.constant-some.ensures.below;
  value = record {
    holds = λ choice v r. guard_none v c.args.ps.now c.args.targets.now c.constant-some.result.at c.args.target
        (c.constant-some.ensures.value choice v r);
  };
}

pub or_if-requires-clause-guard : goal.or_if-requires-clause-guard
or_if-requires-clause-guard c =
    omega (arith, guard_below c.args.ps.now c.loop-i.i record { guard = record { at = 0 }; target = 0 } (omega arith), c.requires.ps, c.loop-i.invariant.grown.longer)

pub loop-i-preserved : goal.loop-i-preserved
loop-i-preserved c =
    let grown = c.in_ok-more.ensures.grown in
    record {
      grown = Grown-trans _ _ _ c.loop-i.invariant.grown grown;
      below = c.in_ok-more.ensures.ok.below;
      value = record {
        holds = λ choice v r.
            guard_step v c.args.ps.now c.args.targets.now c.loop-i.i _ _ c.loop-i.some.at c.in_ok-more.more.at c.args.target (omega arith) c.loop-i-test.true
            (c.loop-i.invariant.value.holds choice v (grown.runs choice v r)) (c.in_ok-more.ensures.ok.value choice v r);
      };
    }

pub returns-clause-ok : goal.returns-clause-ok
returns-clause-ok c = record {
  below = c.loop-i.invariant.below;
  value = λ choice v r. guard_whole v c.args.ps.now c.args.targets.now c.loop-i.i c.loop-i.some.at c.args.target c.requires.wide (omega arith)
      (c.loop-i.invariant.value.holds choice v r);
}
