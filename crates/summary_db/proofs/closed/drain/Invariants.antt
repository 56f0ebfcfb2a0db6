use Rattle.std.proofs.Common.{◌≡◌, ℕ, ◌<◌, ◌≤◌, ◌+◌, true, false, get_or, vec_len, None}
use Rattle.std.specs.Slots.{slots_items, slots_len, slots_filled}
use lib.ListN.{get_elem?}
use mathlib.Core.Option.{some}
use Rattle.summary_db.proofs.closed.drain.Given as goal

abbrev pub invariant-loop-number : goal.invariant-loop-number
invariant-loop-number g l =
    ((slots_items l.closed.slots ≡ slots_items l.initial.closed.slots) × (slots_len l.closed.slots ≡ slots_len l.initial.closed.slots) × (vec_len l.room ≡ vec_len l.initial.room))
    × ((k : ℕ) → k < l.number → get_or (slots_filled l.closed.slots) k false ≡ false)
    × ((k : ℕ) → l.number ≤ k → k < slots_len l.closed.slots → get_or (slots_filled l.closed.slots) k false ≡ true)
    × ((f : ℕ) → l.first + f < l.number → get_elem? (slots_items l.closed.slots) (l.first + f) ≡ some (get_or l.room.items f None))
