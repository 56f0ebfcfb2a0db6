-- When an answer without places comes.
use Rattle.std.specs.Prelude.{◌≡◌, ℕ, Result, Err}
use Rattle.sc_base.specs.declared.skip.LimitKind.{LimitKind}
use Rattle.sc_base.specs.declared.skip.LimitKind.TheVariants as limit
use Rattle.sc_gather.specs.declared.refused.Refused.{Refused}
use Rattle.sc_gather.specs.declared.refused.Refused.TheVariants as refused
use Rattle.places.specs.declared.laying.PlaceAnswer.{PlaceAnswer}
use Rattle.places.specs.declared.laying.PlaceAnswer.TheVariants as answer

abbrev pub IsRefusal : {A : Type 0} → Result A LimitKind → Refused → Type 0
IsRefusal due (refused.Limit k) = due ≡ Err k
IsRefusal due refused.Memory = Unit {0}

-- the first count that is beyond a limit of a function
abbrev pub first_beyond : LimitKind → ℕ
first_beyond limit.Nodes = 4097
first_beyond limit.Locations = 257
first_beyond _ = 0

-- a limit exactly where the definition passes it, with its count; want of memory says nothing
abbrev pub IsDue : {A : Type 0} → Result A LimitKind → PlaceAnswer → Type 0
IsDue due (answer.Limit k n) = (due ≡ Err k) × (n ≡ first_beyond k)
IsDue due answer.OutOfMemory = Unit {0}
