use Rattle.std.proofs.Common.{◌∙◌}
use Rattle.flow_turns.proofs.Past.{grown_both}
use Rattle.flow_turns.proofs.Settled.{settled_from}
use Rattle.flow_turns.proofs.before.Before.settle.Goals as goal

pub returns-clause-ok : goal.returns-clause-ok
returns-clause-ok c =
    settled_from _ _ c.args.temp c.args.next c.args.here c.args.self.now c.args.made c.tell.new.self c.keep.new.self c.come.new.self
    (grown_both _ _ _ c.in_ok-tell.ensures.grown c.in_ok-keep.ensures.grown) c.requires.here c.requires.gates.splits c.requires.temp c.requires.made.each
    c.requires.gates.fates.each_touched (c.in_ok-tell.ensures.fates.each_bad ∙ c.requires.made.each)
    (record { holds = λ choice v r. c.in_ok-tell.ensures.ok.holds choice v (c.in_ok-keep.ensures.grown.runs choice v r) })
    c.in_ok-keep.ensures.ok c.in_ok-come.ensures.ok
