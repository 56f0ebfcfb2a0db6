-- The items that are left are plain just where all are.
use Rattle.std.proofs.Common.{◌≡◌, drop, map}
use Rattle.plain_bodies.specs.Plain.{all_of, plain_statement}
use Rattle.plain_bodies.proofs.bodies.+statement.Given as goal

abbrev pub invariant-items-loop-x : goal.invariant-items-loop-x
invariant-items-loop-x l = all_of (map (plain_statement l.tags) (drop l.x-index l.xs)) ≡ all_of (map (plain_statement l.fn.tags) l.fn.xs)
