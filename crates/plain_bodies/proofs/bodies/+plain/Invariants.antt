-- The expressions that are left are plain just where all are.
use Rattle.std.proofs.Common.{◌≡◌, drop, map}
use Rattle.plain_bodies.specs.Plain.{all_of, plain}
use Rattle.plain_bodies.proofs.bodies.+plain.Given as goal

abbrev pub invariant-expressions-loop-e : goal.invariant-expressions-loop-e
invariant-expressions-loop-e l = all_of (map (plain l.tags) (drop l.e-index l.es)) ≡ all_of (map (plain l.fn.tags) l.fn.es)
