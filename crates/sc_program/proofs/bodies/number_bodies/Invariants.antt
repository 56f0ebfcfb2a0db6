-- The bodies that are left make of the table so far what all make.
use Rattle.std.proofs.Common.{◌≡◌, [], drop}
use Rattle.sc_program.specs.Tables.{with_bodies}
use Rattle.sc_program.proofs.bodies.number_bodies.Given as goal

abbrev pub invariant-loop-k : goal.invariant-loop-k
invariant-loop-k l = with_bodies l.k (drop l.k l.bodies) l.numbers ≡ with_bodies 0 l.bodies []
