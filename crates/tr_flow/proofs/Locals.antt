-- Numbers of locations are small.
use Rattle.std.proofs.Common.{ℕ, ◌+◌, ◌<◌, ◌≤◌, ◌^◌, Bool, true, false, List, [], ◌∷◌, length, arith, if◌then◌else◌}
use Rattle.std.specs.Prelude.{Option, Some}
use Rattle.sc_world.specs.declared.run.Origin.{Origin}
use Rattle.sc_world.specs.Layout.{Layout, Location, location_of, first_where, or_zero, same_origin}

-- the number that was found, or 0, is below that one, if it is more than 0
if_low : (b : Bool) (k : ℕ) (o : Option ℕ) (most : ℕ) → k < most → or_zero o < most → or_zero (if b then Some k else o) < most
if_low true k o most low rest = low
if_low false k o most low rest = rest

found_low : (test : Location → Bool) (k : ℕ) (ls : List Location) (most : ℕ) → 0 < most → k + length ls ≤ most → or_zero (first_where test k ls) < most
found_low test k [] most some low = some
found_low test k (l ∷ ls) most some low =
    if_low (test l) k (first_where test (k + 1) ls) most (omega arith) (found_low test (k + 1) ls most some (omega arith))

pub local_small : (p : Layout) (o : Origin) → length p.locations < 2 ^ 32 → location_of p o + 1 < 2 ^ 32
local_small p o few =
    let low = found_low (λ l. same_origin o l.origin) 0 p.locations 4294967295 (omega arith) (omega arith) in omega arith
