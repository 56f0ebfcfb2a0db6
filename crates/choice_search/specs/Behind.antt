-- The list of choices behind another one, in their order: false before true, the first bit counting most.

use Rattle.std.specs.Prelude.{ℕ, ◌+◌, ◌^◌, Bool, true, false, Option, Some}
use Rattle.std.specs.Prelude.{None, List, [], ◌∷◌, ◌++◌, length, replicate, if◌then◌else◌}
use Rattle.sc_world.specs.Choices.{or_else, first_from}

-- all bits behind a bit are set, so it turns; or one of them turns
abbrev pub turned : Bool → ℕ → Option (List Bool)
turned true n = None
turned false n = Some (true ∷ replicate n false)

abbrev pub behind_of : Bool → ℕ → Option (List Bool) → Option (List Bool)
behind_of b n None = turned b n
behind_of b n (Some bs) = Some (b ∷ bs)

-- the list behind; none behind the one of which all bits are set
unfoldable pub behind : List Bool → Option (List Bool)
behind [] = None
behind (b ∷ bs) = behind_of b (length bs) (behind bs)

-- The first list that passes, of those that begin with a front, from one of them on.
unfoldable pub first_at_or_behind : (front here : List Bool) → (List Bool → Bool) → Option (List Bool)
first_at_or_behind front [] test = if test front then Some front else None
first_at_or_behind front (true ∷ bs) test = first_at_or_behind (front ++ true ∷ []) bs test
first_at_or_behind front (false ∷ bs) test =
    or_else (first_at_or_behind (front ++ false ∷ []) bs test) (first_from (length bs) (front ++ true ∷ []) test)

-- how many lists stand behind one
unfoldable pub left : List Bool → ℕ
left [] = 0
left (true ∷ bs) = left bs
left (false ∷ bs) = left bs + 2 ^ length bs
