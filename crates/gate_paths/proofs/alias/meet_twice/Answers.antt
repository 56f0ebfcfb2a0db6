use Rattle.std.proofs.Common.{◌+◌, arith}
use Rattle.std.proofs.lemmas.List.{take_rest}
use Rattle.bit_net.proofs.Growth.{Grown-refl, Grown-trans}
use Rattle.gate_paths.proofs.Meeting.{twice_none, twice_step, is_twice}
use Rattle.gate_paths.proofs.alias.meet_twice.Goals as goal

pub loop-k-init : goal.loop-k-init
loop-k-init c = record { grown = Grown-refl _; so_far = twice_none _ c.args.found.now _ c.constant-some.ensures }

pub loop-k-preserved : goal.loop-k-preserved
loop-k-preserved c =
    record {
      grown = Grown-trans _ _ _ c.loop-k.invariant.grown (Grown-trans _ _ _ c.in_ok-met.ensures.grown c.in_ok-more.ensures.grown);
      so_far =
          twice_step _ _ _ c.args.found.now _ c.loop-k.k _ _ _ _ c.loop-k-test.true (take_rest c.args.found.now (c.loop-k.k + 1)) c.in_ok-met.ensures.grown
          c.in_ok-more.ensures.grown c.loop-k.invariant.so_far c.in_ok-met.ensures.ok c.in_ok-more.ensures.ok;
    }

pub returns-clause-ok : goal.returns-clause-ok
returns-clause-ok c = is_twice _ c.args.found.now c.loop-k.k _ (omega arith) c.loop-k.invariant.so_far
