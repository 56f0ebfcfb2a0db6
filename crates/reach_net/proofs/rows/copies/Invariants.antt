use Rattle.std.proofs.Common.{◌≡◌, take}
use Rattle.reach_net.specs.Walks.{rows_of}
use Rattle.reach_net.proofs.rows.copies.Given as goal

-- the rows so far are the same
abbrev pub invariant-loop-row : goal.invariant-loop-row
invariant-loop-row l = rows_of l.all.items ≡ rows_of (take l.row-index l.rows)
