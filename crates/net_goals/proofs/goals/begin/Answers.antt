use Rattle.std.proofs.Common.{length, replicate, false, refl, ap, sym, ◌∙◌}
use Rattle.std.proofs.lemmas.List.{length-replicate}
use Rattle.net_goals.proofs.Numbering.{at_first}
use Rattle.net_goals.proofs.goals.begin.Goals as goal

pub returns : goal.returns
returns c = λ marks.
    at_first c.args.net.now c.args.inputs marks _ (ap length c.in_ok-lits.ensures ∙ (length-replicate c.len.result (record { var = 0; neg = false }) ∙ c.len.ensures)) refl c.new.ensures
