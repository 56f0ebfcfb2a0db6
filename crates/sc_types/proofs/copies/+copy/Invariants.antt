use Rattle.std.proofs.Common.{◌≡◌, map, take}
use Rattle.sc_typed.specs.Types.{composition}
use Rattle.sc_types.proofs.copies.+copy.Given as goal

abbrev pub invariant-copy_types-loop-t : goal.invariant-copy_types-loop-t
invariant-copy_types-loop-t l = (l.copies ≡ take l.t-index l.t-items) × (map (λ c. c.itself) (map composition (take l.t-index l.t-items)) ≡ l.copies)
