use Rattle.std.proofs.Common.{◌≡◌, map, drop}
use Rattle.sc_world.specs.Tree.{same_types}
use Rattle.sc_world.specs.View.{type, types}
use Rattle.run_world.proofs.types.+same_type.Given as goal

abbrev pub invariant-same_types-loop-i : goal.invariant-same_types-loop-i
invariant-same_types-loop-i l = same_types (types (map type (drop l.i l.a))) (types (map type (drop l.i l.b))) ≡ same_types (types (map type l.fn.a)) (types (map type l.fn.b))
