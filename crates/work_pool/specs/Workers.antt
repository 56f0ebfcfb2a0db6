-- What the ends of a worker rest on.
use Rattle.std.specs.Prelude.{◌≡◌, ℕ, ◌<◌, true, List, []}
use Rattle.plan_core.specs.declared.plan.Plan.{Plan}
use Rattle.summary_db.specs.declared.knows.Knows.{Knows}
use Rattle.summary_db.specs.declared.db.Db.{Db}
use Rattle.summary_db.specs.declared.pass.Pass.{Pass}
use Rattle.summary_db.specs.Views.{member}
use Rattle.summary_db.specs.Passes.{rows_of, work_of, view, IsPassOf}
use Rattle.work_pool.specs.declared.turns.Ended.{Ended}
use Rattle.work_pool.specs.declared.turns.Ended.TheVariants.{Done, Stopped}

-- it saw the first n functions published
abbrev pub SawAll : {T : Type 0} → ℕ → Knows T → Type 0
SawAll n v = (f : ℕ) → f < n → member f v.seen ≡ true

-- w has seen all that v has
abbrev pub SeesOn : {T : Type 0} → Knows T → Knows T → Type 0
SeesOn v w = (f : ℕ) → member f v.seen ≡ true → member f w.seen ≡ true

module _ {W O : Type 0} where
  -- it is a pass of this database, and has no open job
  abbrev pub IsIdle : Db W O → Pass W O → Type 0
  IsIdle db pass = IsPassOf db pass × ((view pass).jobs ≡ [])

  -- this plan and this work are those of the database
  pub record IsWorkOf (rows : W → List (List ℕ)) (defined : W → ℕ → O) (db : Db W O) (plan : Plan) (work : W) : Type 0 where
    pub plan_is : plan.callees ≡ rows_of db
    pub rows_are : rows work ≡ rows_of db
    pub outputs_are : (f : ℕ) → defined work f ≡ defined (work_of db) f

  -- why a worker over n functions ended: its pass saw all of them published, or it stands for an
  -- abandoned job or saw the stop word set
  abbrev pub HasCause : ℕ → Pass W O → Ended → Type 0
  HasCause n pass Done = SawAll n (view pass)
  HasCause n pass Stopped = (view pass).stopped ≡ true
