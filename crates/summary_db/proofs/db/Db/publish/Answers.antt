use Rattle.std.proofs.Common.{arith, length, Some, None, sym, ◌∙◌}
use Rattle.summary_db.specs.Told.{IsOutput}
use Rattle.summary_db.proofs.Callers.{gives_many}
use Rattle.summary_db.proofs.Edges.{length_takes}
use Rattle.summary_db.proofs.Jobs.{to_fill}
use Rattle.summary_db.proofs.db.Db.publish.Goals as goal

pub skip-requires-clause-inside : goal.skip-requires-clause-inside
skip-requires-clause-inside g c κs within =
    let d = c.args.self.now in let job = c.requires.job.0 in
    let l = length_takes d.rows c.args.job.function job.inside in let low = job.asked in
    (job.inside, omega arith)

pub skip-requires-clause-slots : goal.skip-requires-clause-slots
skip-requires-clause-slots g c κs within =
    let d = c.args.self.now in let job = c.requires.job.0 in
    to_fill d.rows d.laid None (IsOutput g.W.Work.defined (Some d.table.shared.key.work.value)) c.args.job.function job.inside c.args.job.asked c.args.job.seat.me.1 job.slots

pub fill-requires-clause-count : goal.fill-requires-clause-count
fill-requires-clause-count g c κs within =
    let d = c.args.self.now in let job = c.requires.job.0 in
    let many = gives_many d.rows d.laid c.args.job.function job.inside in
    c.requires.count ∙ sym many
