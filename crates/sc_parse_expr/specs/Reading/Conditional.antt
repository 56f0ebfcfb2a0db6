-- The conditional operator (C11 6.5.15).
use Rattle.std.specs.Prelude.{ℕ, max, false, List, Option, Some, if◌then◌else◌}
use Rattle.sc_base.specs.declared.pos.Pos.{Pos}
use Rattle.sc_base.specs.declared.pos.NameId.{NameId}
use Rattle.sc_tree.specs.declared.expr.Expr.TheVariants as e
use Rattle.sc_tree.specs.declared.grammar.Level.TheVariants.{Choice, Whole}
use Rattle.sc_tree.specs.Tables.{◌>>=◌}
use Rattle.sc_tree.specs.Tokens.{first_pos}
use Rattle.sc_parse_expr.specs.declared.found.Wanted.{Wanted}
use Rattle.sc_parse_expr.specs.declared.found.Phrase.{Phrase}
use Rattle.sc_parse_expr.specs.declared.found.Operand.{Operand}
use Rattle.sc_parse_front.specs.Front.{front, behind, is_colon, is_question}
use Rattle.sc_parse_expr.specs.Read.{Read, Parse, node, taking}
use Rattle.sc_parse_expr.specs.Reading.Found.{operand}
use Rattle.sc_parse_expr.specs.Reading.Grammar.{place, inner_expr}
use Rattle.sc_parse_expr.specs.Reading.Chain.{operators}

module _ (types : List NameId) (limit : ℕ) (inner : Wanted → Parse Phrase) where
  unfoldable pub conditioned : Pos → Read Operand → Option (Read Operand)
  conditioned begin a = inner_expr types limit inner Whole (behind a.rest) >>= λ b. taking is_colon b.rest >>= λ rest.
      inner_expr types limit inner Choice rest >>= λ c.
      node limit (operand (e.Cond a.it.tree b.it.tree c.it.tree (place begin (first_pos a.rest))) false) (max a.height (max b.height c.height)) c.rest

  unfoldable pub conditioning : Pos → Read Operand → Option (Read Operand)
  conditioning begin a = if is_question (front a.rest) then conditioned begin a else Some a

  unfoldable pub conditional : Parse Operand
  conditional ts = operators types limit inner 10 ts >>= conditioning (first_pos ts)
