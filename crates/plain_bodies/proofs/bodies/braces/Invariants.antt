-- The items that are left are plain just where all are.
use Rattle.std.proofs.Common.{◌≡◌, drop}
use Rattle.plain_bodies.specs.Plain.{plain_items}
use Rattle.plain_bodies.proofs.bodies.braces.Given as goal

abbrev pub invariant-loop-x : goal.invariant-loop-x
invariant-loop-x l = plain_items l.tags (drop l.x-index l.xs) ≡ plain_items l.fn.tags l.fn.xs
