use Rattle.std.proofs.Common.{◌≡◌, ◌++◌, drop}
use Rattle.sc_check.proofs.Built.{meanings}
use Rattle.sc_check.proofs.builtins.builtin_table.Given as goal

abbrev pub invariant-loop-number : goal.invariant-loop-number
invariant-loop-number l = l.builtins ++ meanings l.machine (drop l.number l.names) ≡ meanings l.fn.machine l.fn.names
