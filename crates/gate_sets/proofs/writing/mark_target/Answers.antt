use Rattle.gate_sets.proofs.Marking.{marks_target}
use Rattle.gate_sets.proofs.writing.mark_target.Goals as goal

pub returns-clause-ok : goal.returns-clause-ok
returns-clause-ok c = marks_target _ c.args.ends.now c.args.flag _ _ _ c.in_ok-mark_where.ensures.ok
