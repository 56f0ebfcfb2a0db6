use Rattle.std.proofs.Common.{arith}
use Rattle.bit_net.proofs.Growth.{Grown-refl, Grown-trans}
use Rattle.fn_facts.proofs.Ending.{known_begins, known_more, known_shown}
use Rattle.fn_facts.proofs.Growing.{ready_grows}
use Rattle.fn_facts.proofs.ends.errs_known.Goals as goal

pub loop-k-init : goal.loop-k-init
loop-k-init c = record { grown = Grown-refl _; ready = c.requires.ready; some = known_begins _ _ _ c.constant-some.ensures }

pub loop-k-preserved : goal.loop-k-preserved
loop-k-preserved c =
    let more = c.in_ok-more.ensures in
    record {
      grown = Grown-trans _ _ _ c.loop-k.invariant.grown more.grown;
      ready = ready_grows _ _ _ more.grown c.loop-k.invariant.ready;
      some = known_more _ _ _ c.loop-k.k c.loop-k.some.at _ _ more.grown c.loop-k.invariant.some c.errs_at-here.ensures more.ok;
    }

pub returns-clause-ok : goal.returns-clause-ok
returns-clause-ok c = known_shown _ _ c.loop-k.k _ (omega (arith, c.count-k-end.ensures.count)) c.loop-k.invariant.some
