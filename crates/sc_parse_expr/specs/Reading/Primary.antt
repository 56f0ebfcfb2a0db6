-- Names, constants, strings and expressions in brackets (C11 6.5.1).
use Rattle.std.specs.Prelude.{ℕ, Bool, true, false, List, [], ◌∷◌, Option, Some, None, if◌then◌else◌}
use Rattle.sc_base.specs.declared.pos.Pos.{Pos}
use Rattle.sc_base.specs.declared.pos.NameId.{NameId}
use Rattle.sc_tree.specs.declared.token.Token.{Token}
use Rattle.sc_tree.specs.declared.token.Kind.{Kind}
use Rattle.sc_tree.specs.declared.token.Kind.TheVariants as k
use Rattle.sc_tree.specs.declared.token.Punct.{Punct}
use Rattle.sc_tree.specs.declared.token.StrToken.{StrToken}
use Rattle.sc_tree.specs.declared.expr.Expr.{Expr}
use Rattle.sc_tree.specs.declared.expr.Expr.TheVariants as e
use Rattle.sc_tree.specs.declared.grammar.Level.TheVariants.{Whole}
use Rattle.sc_tree.specs.Tables.{◌>>=◌}
use Rattle.sc_tree.specs.Tokens.{at, is_type}
use Rattle.sc_parse_expr.specs.declared.found.Wanted.{Wanted}
use Rattle.sc_parse_expr.specs.declared.found.Phrase.{Phrase}
use Rattle.sc_parse_expr.specs.declared.found.Operand.{Operand}
use Rattle.sc_parse_front.specs.Front.{string_of, behind, is_left_paren, is_right_paren}
use Rattle.sc_parse_expr.specs.Read.{Read, Parse, node, taking}
use Rattle.sc_parse_expr.specs.Reading.Found.{operand}
use Rattle.sc_parse_expr.specs.Reading.Grammar.{inner_expr}

abbrev pub joined : Option StrToken → List StrToken → List StrToken
joined (Some x) xs = x ∷ xs
joined None xs = []

abbrev pub passed : Option StrToken → List Token → List Token → List Token
passed (Some x) behind here = behind
passed None behind here = here

unfoldable pub strings : List Token → List StrToken
strings [] = []
strings (t ∷ ts) = joined (string_of t.kind) (strings ts)

unfoldable pub past_strings : List Token → List Token
past_strings [] = []
past_strings (t ∷ ts) = passed (string_of t.kind) (past_strings ts) (t ∷ ts)

module _ (types : List NameId) (limit : ℕ) (inner : Wanted → Parse Phrase) where
  abbrev pub atom : Expr → List Token → Option (Read Operand)
  atom t rest = node limit (operand t true) 0 rest

  unfoldable pub bracketed : Read Operand → Option (Read Operand)
  bracketed a = taking is_right_paren a.rest >>= λ rest. node limit (operand a.it.tree true) a.height rest

  abbrev pub named_atom : Bool → NameId → Pos → List Token → Option (Read Operand)
  named_atom true w p rest = None
  named_atom false w p rest = atom (e.Name w (at p)) rest

  abbrev pub in_round : Option Punct → List Token → Option (Read Operand)
  in_round o rest = if is_left_paren o then (inner_expr types limit inner Whole rest >>= bracketed) else None

  unfoldable pub primary_by : Kind → Pos → List Token → Option (Read Operand)
  primary_by (k.Word w) p rest = named_atom (is_type types w) w p rest
  primary_by (k.Int i) p rest = atom (e.Int i (at p)) rest
  primary_by (k.Char c) p rest = atom (e.Char c (at p)) rest
  primary_by k.Odd p rest = atom (e.Odd (at p)) rest
  primary_by (k.Str x) p rest = atom (e.Str (x ∷ strings rest) (at p)) (past_strings rest)
  primary_by (k.Punct o) p rest = in_round (Some o) rest
  primary_by (k.Reserved r) p rest = None

  unfoldable pub primary : Parse Operand
  primary [] = None
  primary (t ∷ ts) = primary_by t.kind t.pos ts
