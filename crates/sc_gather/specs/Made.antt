-- What a step of code gives: what the definition gives, the limit that it passes, or that memory is refused, of which
-- nothing more is said.
use Rattle.std.specs.Prelude.{◌≡◌, Result, Ok, Err}
use Rattle.sc_gather.specs.declared.refused.Refused.{Refused}
use Rattle.sc_gather.specs.declared.refused.Refused.TheVariants as refused
use Rattle.sc_world.specs.Build.{Built}

abbrev pub Stops : {S A : Type 0} → Built S A → Refused → Type 0
Stops built (refused.Limit k) = built ≡ Err k
Stops built refused.Memory = Unit {0}

-- a step that changes what is built
abbrev pub Makes : {S A : Type 0} → Built S A → Result A Refused → (new : S) → Type 0
Makes built (Ok a) new = built ≡ Ok (a, new)
Makes built (Err e) new = Stops built e

abbrev pub IsMemory : Refused → Type 0
IsMemory (refused.Limit k) = ⊥
IsMemory refused.Memory = Unit {0}
