-- Where the segments of a file end: at a `;` outside all brackets, or at a `}` whose `{` stands outside all
-- brackets and follows a `)` or begins the segment. Tokens left at the end are a last segment.
use Rattle.std.specs.Prelude.{ℕ, Bool, true, false, ◌+◌, ◌==◌, ◌&&◌, ◌<◌, ◌≤◌, List, [], ◌∷◌, if◌then◌else◌}
use Rattle.sc_tree.specs.declared.token.Token.{Token}
use Rattle.sc_tree.specs.declared.piece.Bracket.{Bracket}
use Rattle.sc_tree.specs.declared.piece.Bracket.TheVariants as bracket
use Rattle.sc_tree.specs.declared.piece.Role.{Role}
use Rattle.sc_tree.specs.declared.piece.Role.TheVariants as role
use Rattle.sc_tree.specs.declared.piece.Spot.{Spot}
use Rattle.sc_tree.specs.Roles.{role_of}
use Rattle.sc_tree.specs.Removal.{depth_behind}

-- the first token of a segment
abbrev pub first_spot : Spot
first_spot = record { depth = 0; is_body = false; may_begin = true }

abbrev pub is_curly : Bracket → Bool
is_curly bracket.Curly = true
is_curly _ = false

-- whether a segment ends with the token
abbrev pub is_end : Spot → Role → Bool
is_end spot role.Semicolon = spot.depth == 0
is_end spot (role.Closes b) = is_curly b && ((spot.depth == 1) && spot.is_body)
is_end spot _ = false

-- whether the outermost bracket that is open behind the token begins a body
abbrev pub is_body_behind : Spot → Role → Bool
is_body_behind spot (role.Opens b) = if spot.depth == 0 then is_curly b && spot.may_begin else spot.is_body
is_body_behind spot _ = spot.is_body

abbrev pub is_closing_round : Role → Bool
is_closing_round (role.Closes bracket.Round) = true
is_closing_round _ = false

-- where the next token stands, in the same segment
abbrev pub next_spot : Spot → Role → Spot
next_spot spot r = record { depth = depth_behind spot.depth r; is_body = is_body_behind spot r; may_begin = is_closing_round r }

-- The ends from a token on: how many tokens stand before the segment, how many before the token, and where
-- it stands. An end is the number of tokens up to and with its last one.
abbrev pub ends_from : ℕ → ℕ → Spot → List Token → List ℕ
ends_from start at spot [] = if start == at then [] else at ∷ []
ends_from start at spot (t ∷ ts) =
    if is_end spot (role_of t.kind) then (at + 1) ∷ ends_from (at + 1) (at + 1) first_spot ts
    else ends_from start (at + 1) (next_spot spot (role_of t.kind)) ts

unfoldable pub ends_of : List Token → List ℕ
ends_of tokens = ends_from 0 0 first_spot tokens

-- The ends cut that many tokens, from that place on, into segments that are not empty: each is above the one
-- before it, and none is above the number of tokens.
abbrev pub Cuts : ℕ → ℕ → List ℕ → Type 0
Cuts from count [] = Unit
Cuts from count (end ∷ ends) = (from < end) × (end ≤ count) × Cuts end count ends
