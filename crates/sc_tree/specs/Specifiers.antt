-- What the pieces of specifiers make together (C11 6.7, 6.7.1, 6.7.2).
use Rattle.std.specs.Prelude.{Bool, true, false, List, [], ◌∷◌, ◌++◌, Option, Some, None}
use Rattle.sc_tree.specs.declared.expr.Storage.{Storage}
use Rattle.sc_tree.specs.declared.expr.Storage.TheVariants as storage
use Rattle.sc_tree.specs.declared.expr.Base.{Base}
use Rattle.sc_tree.specs.declared.expr.Base.TheVariants as base
use Rattle.sc_tree.specs.declared.expr.Specs.{roll-Specs}
use Rattle.sc_tree.specs.declared.grammar.BodyForm.{BodyForm}
use Rattle.sc_tree.specs.declared.grammar.BodyForm.TheVariants as form
use Rattle.sc_tree.specs.declared.grammar.Piece.{Piece}
use Rattle.sc_tree.specs.declared.grammar.Piece.TheVariants as piece
use Rattle.sc_tree.specs.declared.grammar.SoFar.{SoFar}
use Rattle.sc_tree.specs.declared.grammar.SoFar.TheVariants.{Untyped, Words, Typed}
use Rattle.sc_tree.specs.declared.grammar.Gathered.{Gathered}
use Rattle.sc_tree.specs.declared.grammar.Specified.{Specified}
use Rattle.sc_tree.specs.declared.grammar.TypeWords.{TypeWords}
use Rattle.sc_tree.specs.declared.ctype.CType.{CType}
use Rattle.sc_tree.specs.TypeWords.{no_words, with_word, type_of}
use Rattle.sc_tree.specs.Tables.{◌>>=◌}

abbrev pub no_pieces : Gathered
no_pieces = record { storage = []; so_far = Untyped }

abbrev pub words_so_far : Option TypeWords → Option SoFar
words_so_far (Some ws) = Some (Words ws)
words_so_far None = None

-- a type word joins other type words alone, and a type by itself no other piece of a type
abbrev pub typed : SoFar → Piece → Option SoFar
typed so (piece.Storage s) = Some so
typed Untyped (piece.Word w) = words_so_far (with_word no_words w)
typed (Words ws) (piece.Word w) = words_so_far (with_word ws w)
typed (Typed b f) (piece.Word w) = None
typed Untyped (piece.Whole b f) = Some (Typed b f)
typed _ (piece.Whole b f) = None

abbrev pub stored : List Storage → Piece → List Storage
stored ss (piece.Storage s) = ss ++ s ∷ []
stored ss _ = ss

abbrev pub gathered_as : List Storage → Option SoFar → Option Gathered
gathered_as ss (Some so) = Some (record { storage = ss; so_far = so })
gathered_as ss None = None

-- one piece more
abbrev pub with_piece : Gathered → Piece → Option Gathered
with_piece g p = gathered_as (stored g.storage p) (typed g.so_far p)

-- all pieces, in order
abbrev pub with_pieces : Gathered → List Piece → Option Gathered
with_pieces g [] = Some g
with_pieces g (p ∷ ps) = with_piece g p >>= λ h. with_pieces h ps

-- whether `typedef` is there
abbrev pub is_typedef : List Storage → Bool
is_typedef [] = false
is_typedef (storage.Typedef ∷ ss) = true
is_typedef (s ∷ ss) = is_typedef ss

abbrev pub specified : List Storage → Base → BodyForm → Specified
specified ss b f = record { specs = roll-Specs (record { storage = ss; base = b }); form = f; typedef = is_typedef ss }

abbrev pub specified_words : List Storage → Option CType → Option Specified
specified_words ss (Some t) = Some (specified ss (base.Words t) form.NoBody)
specified_words ss None = None

abbrev pub finished_by : List Storage → SoFar → Option Specified
finished_by ss Untyped = None
finished_by ss (Words ws) = specified_words ss (type_of ws)
finished_by ss (Typed b f) = Some (specified ss b f)

-- the specifiers, which have a type always
abbrev pub finished : Gathered → Option Specified
finished g = finished_by g.storage g.so_far
