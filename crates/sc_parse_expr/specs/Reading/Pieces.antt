-- The pieces of specifiers, one after the other (C11 6.7).
use Rattle.std.specs.Prelude.{ℕ, zero, suc, max, length, Bool, true, false, List, Option, Some, None, if◌then◌else◌}
use Rattle.sc_base.specs.declared.pos.NameId.{NameId}
use Rattle.sc_tree.specs.declared.token.Token.{Token}
use Rattle.sc_tree.specs.declared.expr.Base.TheVariants as base
use Rattle.sc_tree.specs.declared.grammar.BodyForm.TheVariants as form
use Rattle.sc_tree.specs.declared.grammar.Piece.{Piece}
use Rattle.sc_tree.specs.declared.grammar.Piece.TheVariants as piece
use Rattle.sc_tree.specs.declared.grammar.Gathered.{Gathered}
use Rattle.sc_tree.specs.declared.grammar.Specified.{Specified}
use Rattle.sc_tree.specs.Tables.{◌>>=◌}
use Rattle.sc_tree.specs.Tokens.{first_pos}
use Rattle.sc_tree.specs.Specifiers.{no_pieces, with_piece, finished}
use Rattle.sc_parse_expr.specs.declared.found.Wanted.{Wanted}
use Rattle.sc_parse_expr.specs.declared.found.Phrase.{Phrase}
use Rattle.sc_parse_front.specs.Front.{front_word, behind}
use Rattle.sc_parse_front.specs.Start.{Start, AStorage, AWord, ARecord, AnEnum, AName, NoStart, start}
use Rattle.sc_parse_expr.specs.Read.{Read, read, Parse}
use Rattle.sc_parse_expr.specs.Reading.Records.{record_by}
use Rattle.sc_parse_expr.specs.Reading.Enums.{enum_by}

module _ (types : List NameId) (limit : ℕ) (inner : Wanted → Parse Phrase) where
  -- the piece that begins there; none where none begins
  unfoldable pub piece_by : Start → List Token → Option (Read Piece)
  piece_by (AStorage s) ts = Some (read (piece.Storage s) 0 (behind ts))
  piece_by (AWord w) ts = Some (read (piece.Word w) 0 (behind ts))
  piece_by (ARecord u) ts = record_by types limit inner u (first_pos ts) (front_word (behind ts)) (behind ts)
  piece_by AnEnum ts = enum_by types limit inner (first_pos ts) (front_word (behind ts)) (behind ts)
  piece_by (AName w) ts = Some (read (piece.Whole (base.Named w (first_pos ts)) form.NoBody) 0 (behind ts))
  piece_by NoStart ts = None

  abbrev pub starts : Start → Bool
  starts NoStart = false
  starts _ = true

  -- pieces as long as one begins, at most so many
  unfoldable pub gathering : (Gathered → ℕ → Parse Gathered) → Start → Gathered → ℕ → Parse Gathered
  gathering go s g h ts = if starts s then (piece_by s ts >>= λ x. with_piece g x.it >>= λ more. go more (max h x.height) x.rest) else Some (read g h ts)

  unfoldable pub gather : ℕ → Gathered → ℕ → Parse Gathered
  gather zero g h ts = gathering (λ more m us. None) (start types g.so_far ts) g h ts
  gather (suc n) g h ts = gathering (λ more m us. gather n more m us) (start types g.so_far ts) g h ts

  unfoldable pub specs : Parse Specified
  specs ts = gather (length ts) no_pieces 0 ts >>= λ g. finished g.it >>= λ f. Some (read f g.height g.rest)
