-- The table of walks through the functions so far.
use Rattle.std.proofs.Common.{◌≡◌}
use Rattle.call_graph.specs.Tables.{table_before}
use Rattle.call_graph.proofs.tables.table_of.Given as goal

abbrev pub invariant-loop-through : goal.invariant-loop-through
invariant-loop-through l = l.table ≡ table_before l.rows l.through
