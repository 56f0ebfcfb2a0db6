use Rattle.std.proofs.Common.{◌≡◌, map, drop}
use Rattle.sc_typed.specs.Types.{each_fits, same}
use Rattle.sc_types.proofs.equality.+same.Given as goal

abbrev pub invariant-same_types-loop-i : goal.invariant-same_types-loop-i
invariant-same_types-loop-i l = each_fits (λ p t. p t) (map same (drop l.i l.a)) (drop l.i l.b) ≡ each_fits (λ p t. p t) (map same l.a) l.b
