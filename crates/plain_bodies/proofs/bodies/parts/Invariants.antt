-- The declarators that are left are plain just where all are.
use Rattle.std.proofs.Common.{◌≡◌, drop}
use Rattle.plain_bodies.specs.Plain.{plain_parts}
use Rattle.plain_bodies.proofs.bodies.parts.Given as goal

abbrev pub invariant-loop-d : goal.invariant-loop-d
invariant-loop-d l = plain_parts l.tags (drop l.d-index l.ds) ≡ plain_parts l.fn.tags l.fn.ds
