-- Enums with their enumerators (C11 6.7.2.2).
use Rattle.std.specs.Prelude.{ℕ, length, List, [], Option, Some, None, if◌then◌else◌}
use Rattle.sc_base.specs.declared.pos.Pos.{Pos}
use Rattle.sc_base.specs.declared.pos.NameId.{NameId}
use Rattle.sc_tree.specs.declared.expr.Expr.{Expr}
use Rattle.sc_tree.specs.declared.expr.Base.TheVariants as base
use Rattle.sc_tree.specs.declared.expr.EnumSpec.{roll-EnumSpec}
use Rattle.sc_tree.specs.declared.expr.Enumerator.{Enumerator, roll-Enumerator}
use Rattle.sc_tree.specs.declared.grammar.Level.TheVariants.{Choice}
use Rattle.sc_tree.specs.declared.grammar.BodyForm.{BodyForm}
use Rattle.sc_tree.specs.declared.grammar.BodyForm.TheVariants as form
use Rattle.sc_tree.specs.declared.grammar.Piece.{Piece}
use Rattle.sc_tree.specs.declared.grammar.Piece.TheVariants as piece
use Rattle.sc_tree.specs.Tables.{◌>>=◌}
use Rattle.sc_tree.specs.Tokens.{first_pos}
use Rattle.sc_parse_expr.specs.declared.found.Wanted.{Wanted}
use Rattle.sc_parse_expr.specs.declared.found.Phrase.{Phrase}
use Rattle.sc_parse_front.specs.Front.{front, front_word, behind, is_left_brace, is_right_brace, is_equals}
use Rattle.sc_parse_expr.specs.Read.{read, Parse, node, taking, commas}
use Rattle.sc_parse_expr.specs.Reading.Grammar.{with_item, inner_expr}

module _ (types : List NameId) (limit : ℕ) (inner : Wanted → Parse Phrase) where
  abbrev pub enumerator_of : Pos → NameId → Option Expr → Enumerator
  enumerator_of p w v = roll-Enumerator (record { pos = p; name = w; value = v })

  unfoldable pub enumerator : Parse Enumerator
  enumerator ts = front_word ts >>= λ w. if is_equals (front (behind ts))
      then (inner_expr types limit inner Choice (behind (behind ts)) >>= λ v. Some (read (enumerator_of (first_pos ts) w (Some v.it.tree)) v.height v.rest))
      else Some (read (enumerator_of (first_pos ts) w None) 0 (behind ts))

  -- one enumerator at least
  abbrev pub some_enumerators : Parse (List Enumerator)
  some_enumerators ts = commas (enumerator) with_item is_right_brace (length ts) [] 0 ts >>= λ r. Some (read r.it.items r.height r.rest)

  abbrev pub enum_piece : Pos → Option NameId → Option (List Enumerator) → BodyForm → Piece
  enum_piece p tag body f = piece.Whole (base.Enum (roll-EnumSpec (record { pos = p; tag = tag; body = body }))) f

  unfoldable pub enum_body : Pos → Option NameId → Parse Piece
  enum_body p tag ts = commas enumerator with_item is_right_brace (length ts) [] 0 ts >>= λ xs. taking is_right_brace xs.rest >>= λ rest.
      node limit (enum_piece p tag (Some xs.it.items) form.WithBody) xs.height rest

  unfoldable pub tagged_enum : Pos → NameId → Parse Piece
  tagged_enum p tag ts = if is_left_brace (front ts) then enum_body p (Some tag) (behind ts) else Some (read (enum_piece p (Some tag) None form.NoBody) 0 ts)

  unfoldable pub enum_by : Pos → Option NameId → Parse Piece
  enum_by p (Some tag) ts = tagged_enum (first_pos ts) tag (behind ts)
  enum_by p None ts = if is_left_brace (front ts) then enum_body p None (behind ts) else None
