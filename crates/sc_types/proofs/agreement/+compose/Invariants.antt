use Rattle.std.proofs.Common.{◌≡◌, ◌++◌, map, drop}
use Rattle.sc_typed.specs.Types.{with_each, composition}
use Rattle.sc_types.proofs.agreement.+compose.Given as goal

abbrev pub invariant-composite_types-loop-i : goal.invariant-composite_types-loop-i
invariant-composite_types-loop-i l = l.types ++ with_each (map composition (drop l.i l.a)) (drop l.i l.b) ≡ with_each (map composition l.a) l.b
