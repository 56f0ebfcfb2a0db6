-- The job is the only one of the pass, and ends.
use Rattle.std.proofs.Common.{ℕ, ◌+◌, sym, ap, ◌∙◌}
use Rattle.summary_db.specs.Places.{callers}
use Rattle.summary_db.specs.Passes.{rows_of, view, job_view, job_function}
use Rattle.work_pool.proofs.Visits.{ended_put, ended_left}
use Rattle.work_pool.proofs.row.finish.Goals as goal

pub publish-requires-clause-count : goal.publish-requires-clause-count
publish-requires-clause-count g c κs within =
    c.in-Ok.ensures.count ∙ ap (λ (f : ℕ). callers (rows_of c.args.db.now) f + 1) (sym c.rows.ensures.job.1)

pub returns-in-Ok-clause-pass : goal.returns-in-Ok-clause-pass
returns-in-Ok-clause-pass g c =
    let e = ended_put c.args.function (job_function c.rows.new.job) (view c.args.pass.now) (job_view c.rows.new.job) (view c.publish.new.pass)
    c.rows.ensures.job.1 c.requires.pass.1 c.publish.ensures.published in
    ((c.publish.ensures.pass, e.0), e.1)

pub returns-in-Ok-clause-published : goal.returns-in-Ok-clause-published
returns-in-Ok-clause-published g c _ =
    (ended_put c.args.function (job_function c.rows.new.job) (view c.args.pass.now) (job_view c.rows.new.job) (view c.publish.new.pass)
    c.rows.ensures.job.1 c.requires.pass.1 c.publish.ensures.published).2

pub returns-in-Err-clause-pass : goal.returns-in-Err-clause-pass
returns-in-Err-clause-pass g c =
    let e = ended_left c.args.function (job_function c.rows.new.job) (view c.args.pass.now) (job_view c.rows.new.job) (view c.abandon.new.pass)
    c.rows.ensures.job.0.place c.rows.ensures.job.1 c.requires.pass.1 c.abandon.ensures.abandoned in
    ((c.abandon.ensures.pass, e.0), e.1)
