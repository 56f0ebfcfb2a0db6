use Rattle.std.proofs.Common.{◌≡◌, ◌≤◌, take, drop}
use Rattle.std.specs.Prelude.{vec_capacity}
use Rattle.scopes.proofs.scopes.take_off.Given as goal

abbrev pub invariant-loop-off : goal.invariant-loop-off
invariant-loop-off g l = record {
  left : l.stack ≡ drop l._off l.initial.stack;
  taken : l.into.items ≡ take l._off l.initial.stack;
  room : l.count ≤ vec_capacity l.into;
}
