-- What may stand behind an operand: indices, arguments, fields, `++` and `--` (C11 6.5.2).
use Rattle.std.specs.Prelude.{ℕ, zero, suc, max, length, Bool, true, List, [], Option, Some, None, if◌then◌else◌}
use Rattle.sc_base.specs.declared.pos.Pos.{Pos}
use Rattle.sc_base.specs.declared.pos.NameId.{NameId}
use Rattle.sc_tree.specs.declared.op.Step.{Step}
use Rattle.sc_tree.specs.declared.expr.Expr.{Expr}
use Rattle.sc_tree.specs.declared.expr.Expr.TheVariants as e
use Rattle.sc_tree.specs.declared.grammar.Level.TheVariants.{Assignment, Whole}
use Rattle.sc_tree.specs.Tables.{◌>>=◌}
use Rattle.sc_tree.specs.Tokens.{first_pos}
use Rattle.sc_parse_expr.specs.declared.found.Wanted.{Wanted}
use Rattle.sc_parse_expr.specs.declared.found.Phrase.{Phrase}
use Rattle.sc_parse_expr.specs.declared.found.Operand.{Operand}
use Rattle.sc_parse_front.specs.Front.{front, front_word, behind, is_right_paren, is_right_bracket, Suffix, Indexing, Calling, Fielding}
use Rattle.sc_parse_front.specs.Front.{Stepping, NoSuffix, suffix}
use Rattle.sc_parse_expr.specs.Read.{Read, read, Parse, node, taking, commas}
use Rattle.sc_parse_expr.specs.Reading.Found.{operand}
use Rattle.sc_parse_expr.specs.Reading.Grammar.{place, with_tree, never, inner_expr}
use Rattle.sc_parse_expr.specs.Reading.Primary.{primary}

module _ (types : List NameId) (limit : ℕ) (inner : Wanted → Parse Phrase) where
  -- one argument at least
  abbrev pub some_arguments : Parse (List Expr)
  some_arguments ts = commas (inner_expr types limit inner Assignment) with_tree never (length ts) [] 0 ts >>= λ r. Some (read r.it.items r.height r.rest)

  unfoldable pub arguments : Parse (List Expr)
  arguments ts = if is_right_paren (front ts) then Some (read [] 0 ts)
      else (commas (inner_expr types limit inner Assignment) with_tree never (length ts) [] 0 ts >>= λ r. Some (read r.it.items r.height r.rest))

  unfoldable pub indexed : Pos → Read Operand → Option (Read Operand)
  indexed begin a = inner_expr types limit inner Whole (behind a.rest) >>= λ b. taking is_right_bracket b.rest >>= λ rest.
      node limit (operand (e.Index a.it.tree b.it.tree (place begin (first_pos a.rest))) true) (max a.height b.height) rest

  unfoldable pub calling : Pos → Read Operand → Option (Read Operand)
  calling begin a = arguments (behind a.rest) >>= λ b. taking is_right_paren b.rest >>= λ rest.
      node limit (operand (e.Call a.it.tree b.it (place begin (first_pos a.rest))) true) (max a.height b.height) rest

  unfoldable pub fielded : Pos → Bool → Read Operand → Option (Read Operand)
  fielded begin arrow a = front_word (behind a.rest) >>= λ w.
      node limit (operand (e.Field a.it.tree w arrow (place begin (first_pos (behind a.rest)))) true) a.height (behind (behind a.rest))

  unfoldable pub stepped : Pos → Step → Read Operand → Option (Read Operand)
  stepped begin by a = node limit (operand (e.PostInc by a.it.tree (place begin (first_pos a.rest))) true) a.height (behind a.rest)

  -- an operand with the one suffix that stands behind it
  abbrev pub one_suffix : Pos → Suffix → Read Operand → Option (Read Operand)
  one_suffix begin Indexing a = indexed begin a
  one_suffix begin Calling a = calling begin a
  one_suffix begin (Fielding arrow) a = fielded begin arrow a
  one_suffix begin (Stepping by) a = stepped begin by a
  one_suffix begin NoSuffix a = None

  -- an operand with what stands behind it, one suffix after the other
  unfoldable pub suffixed : (Read Operand → Option (Read Operand)) → Pos → Suffix → Read Operand → Option (Read Operand)
  suffixed go begin Indexing a = indexed begin a >>= go
  suffixed go begin Calling a = calling begin a >>= go
  suffixed go begin (Fielding arrow) a = fielded begin arrow a >>= go
  suffixed go begin (Stepping by) a = stepped begin by a >>= go
  suffixed go begin NoSuffix a = Some a

  unfoldable pub suffixes : ℕ → Pos → Read Operand → Option (Read Operand)
  suffixes zero begin a = suffixed (λ r. None) begin (suffix (front a.rest)) a
  suffixes (suc n) begin a = suffixed (λ r. suffixes n begin r) begin (suffix (front a.rest)) a

  unfoldable pub postfix : Parse Operand
  postfix ts = primary types limit inner ts >>= suffixes limit (first_pos ts)
