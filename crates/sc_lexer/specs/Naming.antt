-- Which names the words of a file leave: each word that is not reserved is a name, in the order in which they stand, and
-- one that is there already stays where it is.
use Rattle.std.specs.Prelude.{ℕ, zero, suc, List, [], ◌∷◌, ◌++◌, take, drop, length, Option, Some, None}
use Rattle.sc_base.specs.Names.{with_text}
use Rattle.sc_tree.specs.declared.token.Reserved.{Reserved}
use Rattle.sc_tree.specs.declared.piece.Form.{Form}
use Rattle.sc_tree.specs.declared.piece.Form.TheVariants as form
use Rattle.sc_tree.specs.declared.piece.Piece.{Piece}
use Rattle.sc_tree.specs.Pieces.{piece}
use Rattle.sc_tree.specs.Places.{is_fresh_at}
use Rattle.sc_tree.specs.Words.{reserved}

-- the names with this word, if it is not reserved
abbrev pub with_word : Option Reserved → List (List ℕ) → List ℕ → List (List ℕ)
with_word (Some r) names text = names
with_word None names text = with_text names text

-- the names with a piece of this text
abbrev pub with_piece : Form → List (List ℕ) → List ℕ → List (List ℕ)
with_piece form.Blank names text = names
with_piece form.Word names text = with_word (reserved text) names text
with_piece (form.Known k) names text = names

-- what follows from a piece; where there is none, the names stay
abbrev pub behind_piece : Option Piece → List (List ℕ) → (Piece → List (List ℕ)) → List (List ℕ)
behind_piece None names others = names
behind_piece (Some p) names others = others p

-- The names with the words of the bytes that are left, behind the bytes before them. Each piece has a byte or more, so
-- there are no more steps than bytes.
abbrev pub with_words : ℕ → List (List ℕ) → List ℕ → List ℕ → List (List ℕ)
with_words zero names before bytes = names
with_words (suc n) names before [] = names
with_words (suc n) names before (c ∷ cs) =
    behind_piece (piece (is_fresh_at before) (c ∷ cs)) names (λ p.
    let text = take p.len (c ∷ cs) in
    with_words n (with_piece p.form names text) (before ++ text) (drop p.len (c ∷ cs)))

-- the names with the words of a file
unfoldable pub names_after : List (List ℕ) → List ℕ → List (List ℕ)
names_after names bytes = with_words (length bytes) names [] bytes
