-- The clause that is deleted is taken out, where that is noted.
use Rattle.sat_clauses.proofs.CertifiedLemmas.{recorded_forgot}
use Rattle.sat_clauses.proofs.held.forget_one.Goals as goal

pub returns-in-Some-clause-recorded : goal.returns-in-Some-clause-recorded
returns-in-Some-clause-recorded c given h =
    recorded_forgot given c.args.learnt.now c.take_out.new.self c.args.log.now c.note_end.new.log c.args.i c.in-Some.clause.now h
    c.take_out.ensures.thins c.in-Some.ensures c.take_out.ensures.gone c.note_end.ensures
