-- What clauses say of a database, of its passes and of its jobs.
use Rattle.std.specs.Prelude.{◌≡◌, ◌≢◌, ℕ, ◌+◌, ◌<◌, ◌≤◌, true, List, [], ◌∷◌, length, Option, Some, None, if◌then◌else◌, Bool}
use Rattle.std.specs.declared.alloc.Global.{Global}
use Rattle.std.specs.declared.sync.Arc.{Arc}
use Rattle.plan_core.specs.Graph.{callees}
use Rattle.summary_db.specs.declared.knows.Knows.{Knows}
use Rattle.summary_db.specs.declared.db.Db.{Db}
use Rattle.summary_db.specs.declared.pass.Pass.{Pass}
use Rattle.summary_db.specs.declared.pass.Job.{Job}
use Rattle.summary_db.specs.declared.pass.Claim.{Claim}
use Rattle.summary_db.specs.declared.pass.Claim.TheVariants.{Claimed, Taken, Waiting}
use Rattle.summary_db.specs.declared.pass.Seen.{Seen}
use Rattle.summary_db.specs.declared.pass.Seen.TheVariants.{Yes, No}
use Rattle.summary_db.specs.Views.{member}
use Rattle.summary_db.specs.Places.{Given, Spent, Rolled, slots_of}
use Rattle.summary_db.specs.Told.{IsOutput}

module _ {W O : Type 0} where
  -- the kept callees of each function of the plan
  abbrev pub rows_of : Db W O → List (List ℕ)
  rows_of db = db.rows

  abbrev pub work_of : Db W O → W
  work_of db = db.table.shared.key.work.value

  -- what a pass stands for
  abbrev pub view : Pass W O → Knows (Option W)
  view pass = pass.seat.me.0

  -- what a job stands for
  abbrev pub job_view : Job W O → Knows (Option W)
  job_view job = job.seat.me.0

  -- the function that a job has claimed
  abbrev pub job_function : Job W O → ℕ
  job_function job = job.function

  -- how many outputs it was asked for
  abbrev pub job_asked : Job W O → ℕ
  job_asked job = job.asked

  -- it is a pass of this database
  pub record IsPassOf (db : Db W O) (pass : Pass W O) : Type 0 where
    pub table : pass.seat.table_id ≡ db.table.shared.table_id
    pub holds : pass.seat.me.1 ≡ []
    pub rows : pass.seat.me.0.rows ≡ db.rows
    pub work : pass.seat.me.0.work ≡ Some db.table.shared.key.work.value

  -- it is a job of this database, which has claimed its function and holds the function's slots
  pub record IsJobOf (defined : W → ℕ → O) (db : Db W O) (job : Job W O) : Type 0 where
    pub table : job.seat.table_id ≡ db.table.shared.table_id
    pub inside : job.function < length db.rows
    pub claim : member job.function job.seat.me.0.claims ≡ true
    pub place : job.seat.me.0.place ≡ job.function
    pub asked : job.asked ≤ length (callees db.rows job.function)
    pub slots :
        Rolled (Given db.rows (IsOutput defined (Some db.table.shared.key.work.value)) job.function) (Spent db.rows None job.function)
        (slots_of db.rows job.function) job.asked job.seat.me.1

  -- what became of an attempt to claim f, by a pass that stood for v before and for w after
  abbrev pub IsClaim : (W → ℕ → O) → Db W O → ℕ → Knows (Option W) → Knows (Option W) → Claim W O → Type 0
  IsClaim defined db f v w (Claimed job) =
      IsJobOf defined db job × (job.function ≡ f) × (job.asked ≡ 0)
      × (job.seat.me.0.claims ≡ f ∷ []) × (job.seat.me.0.word ≡ 0) × (job.seat.me.0.finds ≡ 1)
      × Rattle.summary_db.specs.Views.Looks (record v { jobs = f ∷ v.jobs }) w
  IsClaim defined db f v w (Taken found) =
      (0 < found) × (found < 3) × (w.place ≡ f) × (w.word ≡ found) × (v.finds < w.finds) × Rattle.summary_db.specs.Views.Looks v w
  IsClaim defined db f v w (Waiting callee found) =
      (member callee (callees db.rows f) ≡ true) × (found < 2) × (w.place ≡ callee) × (w.word ≡ found) × (v.finds < w.finds) × Rattle.summary_db.specs.Views.Looks v w

-- the answer that the word x gives
abbrev pub IsSeen : ℕ → Seen → Type 0
IsSeen x Yes = x ≡ 2
IsSeen x (No found) = (found ≡ x) × (x < 2)
