use Rattle.std.proofs.Common.{◌≡◌, ◌+◌, ◌-◌, ◌≤◌, drop}
use Rattle.sc_world.specs.Programs.{types_of}
use Rattle.fn_rows.proofs.Counts.{entries}
use Rattle.fn_rows.proofs.params.count_entry.Given as goal

-- with those that are left there are as many
abbrev pub invariant-loop-param : goal.invariant-loop-param
invariant-loop-param l =
    record {
      left : l.n + entries (3 - l.n) (types_of (drop l.param-index l.params)) ≡ entries 3 (types_of l.params);
      few : l.n ≤ 3;
    }
