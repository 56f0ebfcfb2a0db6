use Rattle.std.proofs.Common.{take}
use Rattle.std.specs.List.{list_any}
use Rattle.bit_net.specs.Runs.{Gives, Grown}
use Rattle.gate_rows.specs.Sought.{is_sought}
use Rattle.gate_rows.proofs.sought.has_row.Given as goal

-- the gate tells of the rows so far
abbrev pub invariant-loop-row : goal.invariant-loop-row
invariant-loop-row l =
    record {
      grown : Grown l.fn.net l.net;
      so_far : Gives l.net l.some.at (λ choice v. list_any (is_sought v l.sought) (take l.row-index l.rows));
    }
