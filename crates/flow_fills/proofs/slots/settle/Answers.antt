use Rattle.std.proofs.Common.{◌∙◌, sym, refl}
use Rattle.flow_turns.proofs.Past.{grown_both}
use Rattle.flow_fills.proofs.Celled.{celled_from}
use Rattle.flow_fills.proofs.slots.settle.Goals as goal

pub returns-clause-ok : goal.returns-clause-ok
returns-clause-ok c =
    celled_from _ _ c.args.slot c.args.next c.args.here c.args.before.now c.args.given c.tell.new.self c.keep_among.new.temps c.come.new.self
    (grown_both _ _ _ c.in_ok-tell.ensures.grown c.in_ok-keep_among.ensures.grown) c.requires.here c.requires.gates.splits c.requires.given.each
    c.requires.gates.fates.each_touched (c.in_ok-tell.ensures.fates.each_bad ∙ c.requires.given.each)
    (record { holds = λ choice v r. c.in_ok-tell.ensures.ok.holds choice v (c.in_ok-keep_among.ensures.grown.runs choice v r) })
    c.keep_among.ensures.vals c.keep_among.ensures.sure c.keep_among.ensures.kept c.in_ok-keep_among.ensures.ok c.in_ok-come.ensures.ok
