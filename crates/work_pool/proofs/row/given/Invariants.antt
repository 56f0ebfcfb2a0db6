use Rattle.std.proofs.Common.{◌≡◌, map, take}
use Rattle.std.specs.Arc.{arc_value}
use Rattle.plan_core.specs.Graph.{callees}
use Rattle.summary_db.specs.Passes.{rows_of, work_of, job_view, job_function, job_asked, IsJobOf}
use Rattle.work_pool.proofs.row.given.Given as goal

-- the job was asked for the outputs of the callees passed
abbrev pub invariant-loop-k : goal.invariant-loop-k
invariant-loop-k g l =
    record {
      job : IsJobOf g.W.Work.defined l.db l.job;
      function : job_function l.job ≡ l.function;
      asked : job_asked l.job ≡ l.k;
      same : job_view l.job ≡ job_view l.fn.job;
      given :
          map arc_value l.list.items
          ≡ map (g.W.Work.defined (work_of l.db)) (take l.k (callees (rows_of l.db) l.function));
    }
