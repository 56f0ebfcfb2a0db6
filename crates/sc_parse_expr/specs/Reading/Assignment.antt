-- Assignments (C11 6.5.16).
use Rattle.std.specs.Prelude.{ℕ, max, Bool, true, false, List, Option, Some, None}
use Rattle.sc_base.specs.declared.pos.Pos.{Pos}
use Rattle.sc_base.specs.declared.pos.NameId.{NameId}
use Rattle.sc_tree.specs.declared.op.AssignOp.{AssignOp}
use Rattle.sc_tree.specs.declared.expr.Expr.TheVariants as e
use Rattle.sc_tree.specs.declared.grammar.Level.TheVariants.{Assignment}
use Rattle.sc_tree.specs.Tables.{◌>>=◌}
use Rattle.sc_tree.specs.Tokens.{first_pos}
use Rattle.sc_parse_expr.specs.declared.found.Wanted.{Wanted}
use Rattle.sc_parse_expr.specs.declared.found.Phrase.{Phrase}
use Rattle.sc_parse_expr.specs.declared.found.Operand.{Operand}
use Rattle.sc_parse_front.specs.Front.{front, behind, assign_at}
use Rattle.sc_parse_expr.specs.Read.{Read, Parse, node}
use Rattle.sc_parse_expr.specs.Reading.Found.{operand}
use Rattle.sc_parse_expr.specs.Reading.Grammar.{place, inner_expr}
use Rattle.sc_parse_expr.specs.Reading.Conditional.{conditional}

module _ (types : List NameId) (limit : ℕ) (inner : Wanted → Parse Phrase) where
  unfoldable pub assigned : Pos → AssignOp → Read Operand → Option (Read Operand)
  assigned begin op a = inner_expr types limit inner Assignment (behind a.rest) >>= λ b.
      node limit (operand (e.Assign op a.it.tree b.it.tree (place begin (first_pos a.rest))) false) (max a.height b.height) b.rest

  unfoldable pub assigning : Pos → Bool → Option AssignOp → Read Operand → Option (Read Operand)
  assigning begin true (Some op) a = assigned begin op a
  assigning begin true None a = Some a
  assigning begin false o a = Some a

  unfoldable pub assignment : Parse Operand
  assignment ts = conditional types limit inner ts >>= λ a. assigning (first_pos ts) a.it.unary (assign_at (front a.rest)) a
