use Rattle.std.proofs.Common.{◌≡◌, drop, map}
use Rattle.sc_jumps.specs.Jumps.{gathering, items_from}
use Rattle.sc_jumps.proofs.gather.+statement.Given as goal

abbrev pub invariant-items-loop-n : goal.invariant-items-loop-n
invariant-items-loop-n l =
    (items_from l.n (map gathering (drop l.n l.xs)) l.way.items l.found ≡ items_from 0 (map gathering l.fn.xs) l.fn.way.items l.fn.found)
    × (l.way.items ≡ l.fn.way.items)
