-- As many owners as the job wants: one for each caller, and one for the result.
use Rattle.std.proofs.Common.{◌≡◌, ℕ, ◌+◌, ap, ◌∙◌, subst, vec_len}
use Rattle.std.specs.Result.{IfOk}
use Rattle.summary_db.specs.Places.{callers}
use Rattle.summary_db.specs.Passes.{rows_of}
use Rattle.work_pool.proofs.row.rows.Goals as goal

pub returns-clause-count : goal.returns-clause-count
returns-clause-count g c =
    let is : c.copies.result ≡ callers (rows_of c.args.db.now) c.args.function + 1 =
    c.copies.ensures ∙ ap (λ (f : ℕ). callers (rows_of c.args.db.now) f + 1) c.given.ensures.job.1 in
    subst (λ (n : ℕ). IfOk c.copied.result (λ rows. vec_len rows.list ≡ n)) is c.copied.ensures.count
