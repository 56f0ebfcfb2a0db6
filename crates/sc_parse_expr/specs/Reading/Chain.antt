-- Operators between two operands, level by level (C11 6.5.5 to 6.5.14).
use Rattle.std.specs.Prelude.{ℕ, zero, suc, max, false, List, Option, Some, None}
use Rattle.sc_base.specs.declared.pos.Pos.{Pos}
use Rattle.sc_base.specs.declared.pos.NameId.{NameId}
use Rattle.sc_tree.specs.declared.op.BinaryOp.{BinaryOp}
use Rattle.sc_tree.specs.declared.expr.Expr.TheVariants as e
use Rattle.sc_tree.specs.declared.grammar.Level.TheVariants.{Operators}
use Rattle.sc_tree.specs.Tables.{◌>>=◌}
use Rattle.sc_tree.specs.Tokens.{first_pos}
use Rattle.sc_parse_expr.specs.declared.found.Wanted.{Wanted}
use Rattle.sc_parse_expr.specs.declared.found.Phrase.{Phrase}
use Rattle.sc_parse_expr.specs.declared.found.Operand.{Operand}
use Rattle.sc_parse_front.specs.Front.{front, behind, binary_at}
use Rattle.sc_parse_expr.specs.Read.{Read, Parse, node}
use Rattle.sc_parse_expr.specs.Reading.Found.{operand}
use Rattle.sc_parse_expr.specs.Reading.Grammar.{place, inner_expr}
use Rattle.sc_parse_expr.specs.Reading.Prefix.{casts}

module _ (types : List NameId) (limit : ℕ) (inner : Wanted → Parse Phrase) where
  unfoldable pub combined : ℕ → Pos → BinaryOp → Read Operand → Option (Read Operand)
  combined l begin op a = inner_expr types limit inner (Operators l) (behind a.rest) >>= λ b.
      node limit (operand (e.Binary op a.it.tree b.it.tree (place begin (first_pos a.rest))) false) (max a.height b.height) b.rest

  unfoldable pub chained : (Read Operand → Option (Read Operand)) → ℕ → Pos → Option BinaryOp → Read Operand → Option (Read Operand)
  chained go l begin (Some op) a = combined l begin op a >>= go
  chained go l begin None a = Some a

  -- an operand with the operators of one level and their operands, one after the other
  unfoldable pub chain : ℕ → ℕ → Pos → Read Operand → Option (Read Operand)
  chain zero l begin a = chained (λ r. None) l begin (binary_at (suc l) (front a.rest)) a
  chain (suc n) l begin a = chained (λ r. chain n l begin r) l begin (binary_at (suc l) (front a.rest)) a

  unfoldable pub operators : ℕ → Parse Operand
  operators zero ts = casts types limit inner ts
  operators (suc l) ts = operators l ts >>= chain limit l (first_pos ts)
