-- What the tables of a layout have: of each key the number of the first location, or call, that has it; and of each call
-- how many occurrences the calls before it have.
use Rattle.std.specs.Prelude.{◌≡◌, ℕ, ◌+◌, ◌^◌, ◌≤◌, Option, None, Bool, List, [], ◌∷◌}
use Rattle.sc_world.specs.Gather.{Site}
use Rattle.sc_world.specs.Layout.{Location}
use Rattle.layout_lookup.specs.declared.key.Key.{Key}
use Rattle.layout_lookup.specs.declared.key.Key.TheVariants as key
use Rattle.layout_lookup.specs.declared.key.Place.{Place}
use Rattle.layout_lookup.specs.Firsts.{first_of}
use Rattle.layout_lookup.specs.Keys.{key_of, place_of, same_key, same_place}

abbrev pub has_key : Key → Location → Bool
has_key q l = same_key q (key_of l.origin)

abbrev pub has_bracket : Place → Site → Bool
has_bracket q s = same_place q (place_of s.bracket)

-- a look-up gives of each key the first location that has it
abbrev pub TellsLocations : (Key → Option ℕ) → List Location → Type 0
TellsLocations find ls = (q : Key) → find q ≡ first_of (has_key q) 0 ls

-- no element has a number beyond 32 bits
abbrev pub HasFewElements : (Key → Option ℕ) → Type 0
HasFewElements find = (up k : ℕ) → 2 ^ 32 ≤ k → find (key.Elem up k) ≡ None

-- a look-up gives of each opening bracket the first call that has it
abbrev pub TellsSites : (Place → Option ℕ) → List Site → Type 0
TellsSites find ss = (q : Place) → find q ≡ first_of (has_bracket q) 0 ss

-- the numbers of the first occurrences of all calls but the first one, and of what stands behind the last call
abbrev pub firsts_behind : ℕ → List Site → List ℕ
firsts_behind n [] = []
firsts_behind n (s ∷ ss) = (n + s.turns) ∷ firsts_behind (n + s.turns) ss

abbrev pub firsts : List Site → List ℕ
firsts ss = 0 ∷ firsts_behind 0 ss
