use Rattle.bit_net.specs.Runs.{Grown}
use Rattle.gate_acts.specs.Tables.{IsTable, led_below}
use Rattle.gate_acts.proofs.tables.table_of.Given as goal

-- the table has the entries of the states so far
abbrev pub invariant-loop-state : goal.invariant-loop-state
invariant-loop-state l = record { grown : Grown l.fn.net l.net; so_far : IsTable l.net l.bits (led_below l.machine l.operation l.state) l.table }
