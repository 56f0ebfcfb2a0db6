-- What is asked of a program whose functions are analysed.
use Rattle.fsm_spec.specs.Table.{IsWhole}
use Rattle.sc_typed.specs.declared.program.Program.{Program}
use Rattle.sc_world.specs.Programs.{machine_or_locks}

-- the machine of states is one that a file spells, or that of locks
abbrev pub HasWholeMachine : Program → Type 0
HasWholeMachine program = IsWhole (machine_or_locks program.machine)
