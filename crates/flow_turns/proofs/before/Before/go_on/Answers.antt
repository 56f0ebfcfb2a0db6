use Rattle.std.proofs.Common.{◌∙◌}
use Rattle.flow_turns.proofs.Acted.{acted_from}
use Rattle.flow_turns.proofs.before.Before.go_on.Goals as goal

pub returns-clause-ok : goal.returns-clause-ok
returns-clause-ok c =
    acted_from _ _ c.args.next c.args.here c.args.self.now c.args.on.at c.args.ends.now c.tell.new.self c.come.new.self
    c.in_ok-tell.ensures.grown c.requires.here c.requires.gates.splits c.requires.each
    c.requires.gates.fates.each_touched (c.in_ok-tell.ensures.fates.each_bad ∙ c.requires.each)
    c.in_ok-tell.ensures.ok c.in_ok-come.ensures.ok
