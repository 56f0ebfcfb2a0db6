-- What a worker's turns tell it.
use Rattle.std.specs.Prelude.{◌≡◌, ℕ, true}
use Rattle.summary_db.specs.declared.knows.Knows.{Knows}
use Rattle.summary_db.specs.Views.{member}
use Rattle.work_pool.specs.declared.turns.Visited.{Visited}
use Rattle.work_pool.specs.declared.turns.Visited.TheVariants as visited
use Rattle.work_pool.specs.declared.turns.TurnEnd.{TurnEnd}
use Rattle.work_pool.specs.declared.turns.TurnEnd.TheVariants as ends
use Rattle.work_pool.specs.Workers.{SawAll}

-- what became of f, where the worker's pass stands for v afterwards
abbrev pub IsVisit : {T : Type 0} → ℕ → Knows T → Visited → Type 0
IsVisit f v visited.Made = member f v.seen ≡ true
IsVisit f v visited.Seen = member f v.seen ≡ true
IsVisit f v visited.Open = Unit {0}
IsVisit f v visited.Stopped = v.stopped ≡ true

-- what became of a turn over n functions
abbrev pub IsTurn : {T : Type 0} → ℕ → Knows T → TurnEnd → Type 0
IsTurn n v ends.Done = SawAll n v
IsTurn n v ends.Stopped = v.stopped ≡ true
IsTurn n v (ends.Open published made) = Unit {0}
