use Rattle.sc_bodies.proofs.Kept.{gives_left, case_kept}
use Rattle.sc_bodies.proofs.parts.case_as.Goals as goal

pub returns-clause-kept : goal.returns-clause-kept
returns-clause-kept c =
    gives_left _ c.case_of.result c.case_of.new.walk c.args.walk.now.globals
    c.case_of.ensures (case_kept c.args.w c.args.at _ c.args.e c.args.walk.now)
