-- What the bytes of a file are (C11 6.4): its tokens with the ends of its segments, or one of two refusals.
--
-- The bytes are cut into pieces. Where nothing begins, that place is the answer. Else the brackets are
-- matched over all tokens, and the first that does not match is the answer. Else the words that leave
-- nothing are taken out, and what is left falls into segments.
use Rattle.std.specs.Prelude.{ℕ, List, [], length, Option, Some, None, Result, Ok, Err}
use Rattle.sc_base.specs.declared.pos.Pos.{Pos}
use Rattle.sc_tree.specs.declared.token.Token.{Token}
use Rattle.sc_tree.specs.Cut.{cut}
use Rattle.sc_tree.specs.Brackets.{unbalanced}
use Rattle.sc_tree.specs.Removal.{kept}
use Rattle.sc_tree.specs.Segments.{ends_of}

pub data Lexed : Type 0 where
  -- the first place where nothing begins
  Lexical : Pos → Lexed
  -- the place of a bracket without its other half
  Unbalanced : Pos → Lexed
  -- the tokens, and the ends of the segments
  Lexemes : List Token → List ℕ → Lexed

abbrev pub balanced_tokens : Option Pos → List Token → Lexed
balanced_tokens (Some pos) all = Unbalanced pos
balanced_tokens None all = Lexemes (kept 0 all) (ends_of (kept 0 all))

abbrev pub cut_tokens : Result (List Token) Pos → Lexed
cut_tokens (Err pos) = Lexical pos
cut_tokens (Ok all) = balanced_tokens (unbalanced all) all

-- what the bytes of the file of that number are, where names have the places that the list gives them
unfoldable pub lexed : List (List ℕ) → ℕ → List ℕ → Lexed
lexed names file bytes = cut_tokens (cut names file (length bytes) [] bytes)
