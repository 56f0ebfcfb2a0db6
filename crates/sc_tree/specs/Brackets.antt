-- Which brackets match, over all tokens of a file: each closing bracket closes the last one that is open.
use Rattle.std.specs.Prelude.{Bool, true, false, List, [], ◌∷◌, Option, Some, None, Result, Ok, Err, if◌then◌else◌}
use Rattle.sc_base.specs.declared.pos.Pos.{Pos}
use Rattle.sc_tree.specs.declared.token.Token.{Token}
use Rattle.sc_tree.specs.declared.piece.Bracket.{Bracket}
use Rattle.sc_tree.specs.declared.piece.Bracket.TheVariants as bracket
use Rattle.sc_tree.specs.declared.piece.Role.{Role}
use Rattle.sc_tree.specs.declared.piece.Role.TheVariants as role
use Rattle.sc_tree.specs.Roles.{role_of}
use Rattle.sc_tree.specs.Tables.{◌|?◌}

-- The brackets that are open, the last one first, and the place of the first one, if there is one.
pub record Open : Type 0 where
  pub brackets : List Bracket
  pub since : Option Pos

abbrev pub nothing_open : Open
nothing_open = record { brackets = []; since = None }

abbrev pub is_same : Bracket → Bracket → Bool
is_same bracket.Round bracket.Round = true
is_same bracket.Square bracket.Square = true
is_same bracket.Curly bracket.Curly = true
is_same _ _ = false

-- one bracket more
abbrev pub opened : Open → Bracket → Pos → Open
opened was b pos = record { brackets = b ∷ was.brackets; since = was.since |? Some pos }

-- the place of the first bracket, where some are open
abbrev pub since_of : List Bracket → Option Pos → Option Pos
since_of [] since = None
since_of (b ∷ bs) since = since

-- without the last one, if that is the one that is closed
abbrev pub closed_by : List Bracket → Option Pos → Bracket → Option Open
closed_by [] since b = None
closed_by (last ∷ others) since b = if is_same last b then Some (record { brackets = others; since = since_of others since }) else None

-- what is open behind a token, unless it closes a bracket that is not the last one
abbrev pub behind_role : Open → Pos → Role → Option Open
behind_role was pos (role.Opens b) = Some (opened was b pos)
behind_role was pos (role.Closes b) = closed_by was.brackets was.since b
behind_role was pos _ = Some was

abbrev pub from_open : Option Open → Pos → (Open → Result Open Pos) → Result Open Pos
from_open None pos others = Err pos
from_open (Some was) pos others = others was

-- what is open behind all tokens, or the place of the first that closes a bracket that is not the last one
abbrev pub open_behind : Open → List Token → Result Open Pos
open_behind was [] = Ok was
open_behind was (t ∷ ts) = from_open (behind_role was t.pos (role_of t.kind)) t.pos (λ next. open_behind next ts)

abbrev pub unmatched : Result Open Pos → Option Pos
unmatched (Err pos) = Some pos
unmatched (Ok was) = was.since

-- the place of the first closing bracket that does not match, or else of the first one that is never closed
unfoldable pub unbalanced : List Token → Option Pos
unbalanced tokens = unmatched (open_behind nothing_open tokens)
