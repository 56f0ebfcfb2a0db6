-- Where a run stands: it goes on with a value, or it is over. It is over with an end, or because it never came here.
use Rattle.std.specs.Prelude.{ℕ, suc, nat_eq, Bool, true, false, Option, Some, None, Result, Ok, Err}
use Rattle.sc_world.specs.declared.run.Reason.{Reason}
use Rattle.sc_world.specs.declared.run.Reason.TheVariants as reason
use Rattle.sc_world.specs.World.{World, Ended, Error, Inner, Aside, Run}

pub data Standing (A : Type 0) : Type 0 where
  On : A → World → Standing A
  Over : Option Ended → World → Standing A

-- a run that is over keeps its world
abbrev pub world_of : {A : Type 0} → Standing A → World
world_of (On a w) = w
world_of (Over e w) = w

abbrev pub is_on : {A : Type 0} → Standing A → Bool
is_on (On a w) = true
is_on (Over e w) = false

abbrev pub end_of : {A : Type 0} → Standing A → Option Ended
end_of (On a w) = None
end_of (Over e w) = e

abbrev pub stand : {A : Type 0} → Result A Ended × World → Standing A
stand (Ok a, w) = On a w
stand (Err e, w) = Over (Some e) w

-- where it stands after a step more
abbrev pub after : {A B : Type 0} → Standing A → (A → Run B) → Standing B
after (On a w) f = stand (f a w)
after (Over e w) f = Over e w

-- Reasons by their numbers, in the order in which they count.
abbrev pub reason_number : Reason → ℕ
reason_number reason.Null = 0
reason_number reason.Reach = 1
reason_number reason.Freed = 2
reason_number reason.Type = 3
reason_number reason.Index = 4
reason_number reason.Divide = 5
reason_number reason.Shift = 6
reason_number reason.Depth = 7
reason_number reason.Alias = 8
reason_number reason.NoRow = 9
reason_number reason.NoReturn = 10

-- how many reasons there are
abbrev pub reasons : ℕ
reasons = suc (reason_number reason.NoReturn)

-- whether that is the end of a run that was set aside for the reason with the number k
abbrev pub is_aside : ℕ → Option Ended → Bool
is_aside k (Some (Aside r)) = nat_eq (reason_number r) k
is_aside k _ = false

-- whether that is the end of a run by an error at location k
abbrev pub is_bad : ℕ → Option Ended → Bool
is_bad k (Some (Error at)) = nat_eq at k
is_bad k (Some (Inner at)) = nat_eq at k
is_bad k _ = false
