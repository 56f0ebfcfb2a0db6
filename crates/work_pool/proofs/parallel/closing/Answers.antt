-- What is popped is one of the list's.
use Rattle.std.proofs.Common.{length}
use Rattle.summary_db.specs.Passes.{rows_of}
use Rattle.work_pool.specs.Workers.{IsIdle, HasCause}
use Rattle.work_pool.proofs.Visits.{popped, cause_done}
use Rattle.work_pool.proofs.parallel.closing.Goals as goal

pub joined-requires-clause-first : goal.joined-requires-clause-first
joined-requires-clause-first g c κs within =
    let a = c.in-Some-default-Done in
    let p = popped (λ e. IsIdle c.args.db.now e.0 × HasCause (length (rows_of c.args.db.now)) e.0 e.1)
    c.args.ended.items c.pop.new.self.items c.pop.result (a.first, a.field-0-1) c.pop.ensures.items a.is c.requires in
    (p.1.0, cause_done (length (rows_of c.args.db.now)) a.first a.field-0-1 p.1.1 a.field-0-1-is)

pub joined-requires-clause-ended : goal.joined-requires-clause-ended
joined-requires-clause-ended g c κs within =
    let a = c.in-Some-default-Done in
    (popped (λ e. IsIdle c.args.db.now e.0 × HasCause (length (rows_of c.args.db.now)) e.0 e.1)
    c.args.ended.items c.pop.new.self.items c.pop.result (a.first, a.field-0-1) c.pop.ensures.items a.is c.requires).0
