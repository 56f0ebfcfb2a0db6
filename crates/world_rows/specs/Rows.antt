-- What the rows share.
use Rattle.std.specs.Prelude.{ℕ, List, [], ◌∷◌, Bool, Result, codes}
use Rattle.fsm_spec.specs.declared.table.MachineSpec.{MachineSpec}
use Rattle.fsm_spec.specs.Lock.{lock_operations}
use Rattle.run_store.specs.Concrete.{Cell}
use Rattle.sc_base.specs.declared.pos.Pos.{Pos}
use Rattle.sum_rows.specs.declared.report.Event.{Event}
use Rattle.sc_world.specs.Source.{Source}
use Rattle.sc_world.specs.Layout.{Layout}
use Rattle.sc_world.specs.World.{World, Ended}
use Rattle.sc_world.specs.Exec.{run}

-- a place in the first file
abbrev pub at : (line col : ℕ) → Pos
at line col = record { file = 0; line = line; col = col }

-- the machine of locks
abbrev pub locking_machine : MachineSpec
locking_machine = record { name = codes "lock"; states = codes "U" ∷ codes "L" ∷ []; operations = lock_operations }

abbrev pub seen : Result Cell Ended × World → Result Cell Ended × List Event
seen (r, w) = (r, w.trace)

-- how a run ends, and its events
abbrev pub ran : Source → Layout → List Bool → Result Cell Ended × List Event
ran s p choice = seen (run s p choice)
