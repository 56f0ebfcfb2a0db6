use Rattle.std.proofs.Common.{◌≡◌, take}
use Rattle.file_tables.specs.Own.{names_of_bodies}
use Rattle.file_tables.proofs.own.body_names.Given as goal

abbrev pub invariant-loop-body : goal.invariant-loop-body
invariant-loop-body l = l.names ≡ names_of_bodies (take l.body-index l.bodies)
