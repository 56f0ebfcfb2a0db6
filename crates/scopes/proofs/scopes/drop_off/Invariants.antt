use Rattle.std.proofs.Common.{◌≡◌, drop}
use Rattle.scopes.proofs.scopes.drop_off.Given as goal

abbrev pub invariant-loop-off : goal.invariant-loop-off
invariant-loop-off g l = l.stack ≡ drop l._off l.initial.stack
