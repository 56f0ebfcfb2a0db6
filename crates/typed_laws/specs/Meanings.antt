-- The names of built-in functions mean to typing what they mean to runs: both have the machine of the program.
use Rattle.std.specs.Prelude.{◌≡◌, ℕ, Option, [], slice_index_or}
use Rattle.fsm_spec.specs.declared.table.MachineSpec.{MachineSpec}
use Rattle.sc_calls.specs.Builtins.{builtin}
use Rattle.sc_typing.specs.Here.{Here}
use Rattle.sc_world.specs.Source.{Source}
use Rattle.sc_world.specs.Programs.{machine_or_locks, is_of_locks}

pub record MeansAlike (here : Here) (s : Source) : Type 0 where
  pub machine : Option MachineSpec
  pub given : s.machine ≡ machine_or_locks machine
  pub tries : s.tries ≡ is_of_locks machine
  pub builtins : (n : ℕ) → here.builtin n ≡ builtin machine (slice_index_or s.names n [])
