use Rattle.std.proofs.Common.{arith, length, length-append, Some, None}
use Rattle.summary_db.specs.Places.{takes_of, gives_of}
use Rattle.summary_db.specs.Told.{IsOutput}
use Rattle.summary_db.proofs.Edges.{length_takes}
use Rattle.summary_db.proofs.Jobs.{to_clear}
use Rattle.summary_db.proofs.db.Db.abandon.Goals as goal

pub clear-requires-clause-inside : goal.clear-requires-clause-inside
clear-requires-clause-inside g c κs within =
    let d = c.args.self.now in let job = c.requires.job.0 in
    let l = length_takes d.rows c.args.job.function job.inside in let m = length-append (takes_of d.rows c.args.job.function) (gives_of d.rows c.args.job.function) in let low = job.asked in
    (job.inside, job.table, omega arith)

pub clear-requires-clause-slots : goal.clear-requires-clause-slots
clear-requires-clause-slots g c κs within =
    let d = c.args.self.now in let job = c.requires.job.0 in
    to_clear d.rows d.laid None (IsOutput g.W.Work.defined (Some d.table.shared.key.work.value)) c.args.job.function job.inside c.args.job.asked c.args.job.seat.me.1 job.slots
