-- The tokens of the pieces that the bytes of a file are cut into, with their places.
use Rattle.std.specs.Prelude.{ℕ, zero, suc, List, [], ◌∷◌, ◌++◌, take, drop, Option, Some, None, Result, Ok, Err, option_map, unwrap_or}
use Rattle.sc_base.specs.declared.pos.Pos.{Pos}
use Rattle.sc_base.specs.Names.{place_of}
use Rattle.sc_tree.specs.declared.token.Token.{Token}
use Rattle.sc_tree.specs.declared.token.Kind.{Kind}
use Rattle.sc_tree.specs.declared.token.Kind.TheVariants as kind
use Rattle.sc_tree.specs.declared.piece.Form.{Form}
use Rattle.sc_tree.specs.declared.piece.Form.TheVariants as form
use Rattle.sc_tree.specs.declared.piece.Piece.{Piece}
use Rattle.sc_tree.specs.Pieces.{piece}
use Rattle.sc_tree.specs.Places.{pos_at, is_fresh_at}
use Rattle.sc_tree.specs.Words.{reserved}

-- what a word is: reserved, or the place of its text among the names
unfoldable pub word_kind : List (List ℕ) → List ℕ → Kind
word_kind names text = unwrap_or (option_map kind.Reserved (reserved text)) (kind.Word (record { at = place_of text names }))

-- what a piece of this text is
abbrev pub kind_of : List (List ℕ) → Form → List ℕ → Option Kind
kind_of names form.Blank text = None
kind_of names form.Word text = Some (word_kind names text)
kind_of names (form.Known k) text = Some k

-- the token of that kind, if there is one
abbrev pub token_of : Option Kind → Pos → List Token
token_of None pos = []
token_of (Some k) pos = record { kind = k; pos = pos } ∷ []

-- tokens behind others
abbrev pub behind : List Token → Result (List Token) Pos → Result (List Token) Pos
behind front (Ok tokens) = Ok (front ++ tokens)
behind front (Err pos) = Err pos

-- what follows from a piece, or the place where there is none
abbrev pub from_piece : Option Piece → Pos → (Piece → Result (List Token) Pos) → Result (List Token) Pos
from_piece None pos others = Err pos
from_piece (Some p) pos others = others p

-- The tokens of the bytes that are left, behind those before them, or the place where nothing begins. Each
-- piece has a byte or more, so there are no more steps than bytes.
abbrev pub cut : List (List ℕ) → ℕ → ℕ → List ℕ → List ℕ → Result (List Token) Pos
cut names file zero before bytes = Ok []
cut names file (suc n) before [] = Ok []
cut names file (suc n) before (c ∷ cs) =
    from_piece (piece (is_fresh_at before) (c ∷ cs)) (pos_at file before) (λ p.
    let text = take p.len (c ∷ cs) in
    behind (token_of (kind_of names p.form text) (pos_at file before)) (cut names file n (before ++ text) (drop p.len (c ∷ cs))))
