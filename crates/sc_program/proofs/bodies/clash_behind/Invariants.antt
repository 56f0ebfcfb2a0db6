-- The bodies that are left, behind those so far, clash as all do.
use Rattle.std.proofs.Common.{◌≡◌, [], drop}
use Rattle.sc_program.specs.Tables.{clash_behind}
use Rattle.sc_program.proofs.bodies.clash_behind.Given as goal

abbrev pub invariant-loop-k : goal.invariant-loop-k
invariant-loop-k l = clash_behind l.k (drop l.k l.bodies) l.numbers ≡ clash_behind 0 l.bodies []
