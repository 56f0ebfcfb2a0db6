-- Declarators (C11 6.7.6): `*`, brackets, names, arrays and functions.
use Rattle.std.specs.Prelude.{ℕ, zero, suc, max, Bool, not, ◌&&◌, ◌||◌, List, Option, Some, None, if◌then◌else◌}
use Rattle.sc_base.specs.declared.pos.NameId.{NameId}
use Rattle.sc_tree.specs.declared.token.Token.{Token}
use Rattle.sc_tree.specs.declared.expr.Declarator.TheVariants as d
use Rattle.sc_tree.specs.declared.grammar.Level.TheVariants.{Choice}
use Rattle.sc_tree.specs.declared.grammar.Naming.{Naming}
use Rattle.sc_tree.specs.declared.grammar.Core.TheVariants as core
use Rattle.sc_tree.specs.Tables.{◌>>=◌}
use Rattle.sc_tree.specs.Tokens.{first_pos}
use Rattle.sc_tree.specs.Grammar.{may_name, may_lack, covered, called}
use Rattle.sc_parse_expr.specs.declared.found.Wanted.{Wanted}
use Rattle.sc_parse_expr.specs.declared.found.Phrase.{Phrase}
use Rattle.sc_parse_expr.specs.declared.found.Declared.{Declared}
use Rattle.sc_parse_front.specs.Front.{front, front_word, behind, is_left_paren, is_right_paren, is_right_bracket, is_star, begins_type}
use Rattle.sc_parse_front.specs.Front.{Suffix, Indexing, Calling, suffix}
use Rattle.sc_parse_expr.specs.Read.{Read, Parse, node, taking}
use Rattle.sc_parse_expr.specs.Reading.Found.{declared}
use Rattle.sc_parse_expr.specs.Reading.Grammar.{inner_expr, inner_declarator}
use Rattle.sc_parse_expr.specs.Reading.Parameters.{parameters}

module _ (types : List NameId) (limit : ℕ) (inner : Wanted → Parse Phrase) where
  unfoldable pub pointed : Read Declared → Option (Read Declared)
  pointed t = node limit (declared (d.Pointer t.it.declarator) (covered t.it.core)) t.height t.rest

  unfoldable pub enclosed : Read Declared → Option (Read Declared)
  enclosed t = taking is_right_paren t.rest >>= λ rest. node limit (declared t.it.declarator t.it.core) t.height rest

  -- a declarator in brackets, behind the opening one
  abbrev pub enclosed_at : Naming → Parse Declared
  enclosed_at n ts = inner_declarator types limit inner n ts >>= enclosed

  -- whether what follows an opening bracket is a declarator in brackets: where the name may be left out,
  -- `)` and the first word of a type begin parameters
  abbrev pub encloses : Naming → List Token → Bool
  encloses n ts = not (may_lack n && (is_right_paren (front ts) || begins_type types ts))

  unfoldable pub unnamed : Naming → Parse Declared
  unnamed n ts = if is_left_paren (front ts) && encloses n (behind ts) then (inner_declarator types limit inner n (behind ts) >>= enclosed)
      else (if may_lack n then node limit (declared (d.Name None) core.Nameless) 0 ts else None)

  unfoldable pub begun : Naming → Option NameId → Parse Declared
  begun n (Some w) ts = if may_name n types w then node limit (declared (d.Name (Some (w, first_pos ts))) (core.Bare w)) 0 (behind ts) else unnamed n ts
  begun n None ts = unnamed n ts

  unfoldable pub open_array : Read Declared → Option (Read Declared)
  open_array t = node limit (declared (d.Array t.it.declarator None) (covered t.it.core)) t.height (behind (behind t.rest))

  unfoldable pub long_array : Read Declared → Option (Read Declared)
  long_array t = inner_expr types limit inner Choice (behind t.rest) >>= λ l. taking is_right_bracket l.rest >>= λ rest.
      node limit (declared (d.Array t.it.declarator (Some l.it.tree)) (covered t.it.core)) (max t.height l.height) rest

  unfoldable pub array_of : Read Declared → Option (Read Declared)
  array_of t = if is_right_bracket (front (behind t.rest)) then open_array t else long_array t

  unfoldable pub function_of : Read Declared → Option (Read Declared)
  function_of t = parameters types limit inner (behind t.rest) >>= λ ps. taking is_right_paren ps.rest >>= λ rest.
      node limit (declared (d.Func t.it.declarator ps.it.heads ps.it.dots) (called ps.it.named t.it.core)) (max t.height ps.height) rest

  -- a declarator with the one array or the parameters that stand behind it
  abbrev pub one_derived : Suffix → Read Declared → Option (Read Declared)
  one_derived Indexing t = array_of t
  one_derived Calling t = function_of t
  one_derived _ t = None

  unfoldable pub derived : (Read Declared → Option (Read Declared)) → Suffix → Read Declared → Option (Read Declared)
  derived go Indexing t = array_of t >>= go
  derived go Calling t = function_of t >>= go
  derived go _ t = Some t

  -- a declarator with the arrays and parameters behind it
  unfoldable pub derive : ℕ → Read Declared → Option (Read Declared)
  derive zero t = derived (λ r. None) (suffix (front t.rest)) t
  derive (suc n) t = derived (λ r. derive n r) (suffix (front t.rest)) t

  unfoldable pub direct : Naming → Parse Declared
  direct n ts = begun n (front_word ts) ts >>= derive limit

  unfoldable pub declarator : Naming → Parse Declared
  declarator n ts = if is_star (front ts) then (inner_declarator types limit inner n (behind ts) >>= pointed) else direct n ts
