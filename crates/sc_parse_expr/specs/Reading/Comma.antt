-- The comma operator (C11 6.5.17).
use Rattle.std.specs.Prelude.{ℕ, zero, suc, max, Bool, true, false, List, Option, Some, None}
use Rattle.sc_base.specs.declared.pos.Pos.{Pos}
use Rattle.sc_base.specs.declared.pos.NameId.{NameId}
use Rattle.sc_tree.specs.declared.expr.Expr.TheVariants as e
use Rattle.sc_tree.specs.declared.grammar.Level.TheVariants.{Assignment}
use Rattle.sc_tree.specs.Tables.{◌>>=◌}
use Rattle.sc_tree.specs.Tokens.{first_pos}
use Rattle.sc_parse_expr.specs.declared.found.Wanted.{Wanted}
use Rattle.sc_parse_expr.specs.declared.found.Phrase.{Phrase}
use Rattle.sc_parse_expr.specs.declared.found.Operand.{Operand}
use Rattle.sc_parse_front.specs.Front.{front, behind, is_comma}
use Rattle.sc_parse_expr.specs.Read.{Read, Parse, node}
use Rattle.sc_parse_expr.specs.Reading.Found.{operand}
use Rattle.sc_parse_expr.specs.Reading.Grammar.{place, inner_expr}
use Rattle.sc_parse_expr.specs.Reading.Assignment.{assignment}

module _ (types : List NameId) (limit : ℕ) (inner : Wanted → Parse Phrase) where
  unfoldable pub sequenced : Pos → Read Operand → Option (Read Operand)
  sequenced begin a = inner_expr types limit inner Assignment (behind a.rest) >>= λ b.
      node limit (operand (e.Comma a.it.tree b.it.tree (place begin (first_pos a.rest))) false) (max a.height b.height) b.rest

  unfoldable pub sequencing : (Read Operand → Option (Read Operand)) → Pos → Bool → Read Operand → Option (Read Operand)
  sequencing go begin true a = sequenced begin a >>= go
  sequencing go begin false a = Some a

  unfoldable pub sequence : ℕ → Pos → Read Operand → Option (Read Operand)
  sequence zero begin a = sequencing (λ r. None) begin (is_comma (front a.rest)) a
  sequence (suc n) begin a = sequencing (λ r. sequence n begin r) begin (is_comma (front a.rest)) a

  unfoldable pub whole : Parse Operand
  whole ts = assignment types limit inner ts >>= sequence limit (first_pos ts)
