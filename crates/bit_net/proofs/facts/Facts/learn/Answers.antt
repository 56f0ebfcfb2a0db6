use Rattle.bit_net.proofs.facts.Facts.learn.Goals as goal
use Rattle.bit_net.proofs.FactLemmas.{Learns-note, Learns-more, IsFact-at}

pub loop-at-init : goal.loop-at-init
loop-at-init c = Learns-note _ _ _ _ _ c.in_ok-add.ensures

pub loop-at-preserved : goal.loop-at-preserved
loop-at-preserved c = Learns-more _ _ _ _ _ _ _ _ c.loop-at.invariant (IsFact-at _ c.loop-at.at c.in-Some.fact c.in-Some.ensures) c.follow.ensures

pub returns-in_err-follow-in-Some : goal.returns-in_err-follow-in-Some
returns-in_err-follow-in-Some c = Learns-more _ _ _ _ _ _ _ _ c.loop-at.invariant (IsFact-at _ c.loop-at.at c.in-Some.fact c.in-Some.ensures) c.follow.ensures
