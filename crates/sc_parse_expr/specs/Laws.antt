-- The laws that tie the reading to the grammar: what is read is spelled, and what is spelled is read,
-- whatever follows it that does not go on with it.
use Rattle.std.specs.Prelude.{◌≡◌, ◌≤◌, ℕ, suc, nat_le, Bool, true, false, not, ◌&&◌, ◌||◌, List, [], ◌∷◌, ◌++◌, Option, Some, None}
use Rattle.sc_base.specs.declared.pos.NameId.{NameId}
use Rattle.sc_tree.specs.declared.token.Token.{Token}
use Rattle.sc_tree.specs.declared.token.Kind.{Kind}
use Rattle.sc_tree.specs.declared.token.Kind.TheVariants as k
use Rattle.sc_tree.specs.declared.expr.Expr.{Expr}
use Rattle.sc_tree.specs.declared.expr.Declarator.{Declarator}
use Rattle.sc_tree.specs.declared.grammar.Level.{Level}
use Rattle.sc_tree.specs.declared.grammar.Level.TheVariants.{Primary, Postfix, Prefix, Cast, Operators, Choice, Assignment, Whole}
use Rattle.sc_tree.specs.declared.grammar.Naming.{Naming}
use Rattle.sc_tree.specs.declared.grammar.Core.{Core}
use Rattle.sc_tree.specs.declared.grammar.Specified.{Specified}
use Rattle.sc_tree.specs.Operators.{Binding, binary}
use Rattle.sc_tree.specs.Tables.{◌>>=◌}
use Rattle.sc_tree.specs.Tokens.{is_type}
use Rattle.sc_tree.specs.Grammar.{Spells, Specifies, Declares}
use Rattle.sc_parse_expr.specs.declared.found.Operand.{Operand}
use Rattle.sc_parse_expr.specs.declared.found.Declared.{Declared}
use Rattle.sc_parse_front.specs.Front.{front, front_word, front_reserved, front_string, is_left_paren, is_left_brace, is_star, is_question}
use Rattle.sc_parse_front.specs.Front.{is_comma, is_some, begins_piece, begins_type, unary_at, step_at, assign_at, is_sizeof, Suffix}
use Rattle.sc_parse_front.specs.Front.{Indexing, Calling, NoSuffix, suffix, is_derived}
use Rattle.sc_parse_expr.specs.Read.{Read, read}
use Rattle.sc_parse_expr.specs.Reading.{operand, declared, expr_at, specs_at, declarator_at}

-- ---- what is read is spelled

pub record TakesExpr (types : List NameId) (limit : ℕ) (level : Level) (ts : List Token) (r : Read Operand) : Type 0 where
  pub span : List Token
  pub split : ts ≡ span ++ r.rest
  pub spelled : Spells types level r.height r.it.tree span
  pub prefixed : r.it.unary ≡ true → Spells types Prefix r.height r.it.tree span
  pub low : r.height ≤ limit

pub record TakesSpecs (types : List NameId) (limit : ℕ) (ts : List Token) (r : Read Specified) : Type 0 where
  pub span : List Token
  pub split : ts ≡ span ++ r.rest
  pub spelled : Specifies types r.height r.it span
  pub low : r.height ≤ limit

pub record TakesDeclarator (types : List NameId) (limit : ℕ) (n : Naming) (ts : List Token) (r : Read Declared) : Type 0 where
  pub span : List Token
  pub split : ts ≡ span ++ r.rest
  pub spelled : Declares types n r.it.core r.height r.it.declarator span
  pub low : r.height ≤ limit

-- all three, of one limit
pub record IsSound (types : List NameId) (limit : ℕ) : Type 0 where
  pub expr : (level : Level) (ts : List Token) (r : Read Operand) → expr_at types limit level ts ≡ Some r → TakesExpr types limit level ts r
  pub specs : (ts : List Token) (r : Read Specified) → specs_at types limit ts ≡ Some r → TakesSpecs types limit ts r
  pub declarator : (n : Naming) (ts : List Token) (r : Read Declared) → declarator_at types limit n ts ≡ Some r → TakesDeclarator types limit n ts r

-- ---- what is spelled is read

abbrev pub is_no_suffix : Suffix → Bool
is_no_suffix NoSuffix = true
is_no_suffix _ = false

abbrev pub is_weaker : ℕ → Option Binding → Bool
is_weaker l None = true
is_weaker l (Some b) = nat_le (suc l) b.level

-- neither a string literal, nor what may stand behind an operand, nor a binary operator of that level or a
-- tighter one
abbrev pub ends_operators : ℕ → List Token → Bool
ends_operators l ts = not (is_some (front_string ts)) && (is_no_suffix (suffix (front ts)) && is_weaker l (front ts >>= binary))

abbrev pub ends_conditional : List Token → Bool
ends_conditional ts = ends_operators 10 ts && not (is_question (front ts))

abbrev pub ends_assignment : List Token → Bool
ends_assignment ts = ends_conditional ts && not (is_some (assign_at (front ts)))

-- whether the tokens do not go on with an expression of that level
abbrev pub ends_expr : Level → List Token → Bool
ends_expr Primary ts = not (is_some (front_string ts))
ends_expr Postfix ts = ends_operators 0 ts
ends_expr Prefix ts = ends_operators 0 ts
ends_expr Cast ts = ends_operators 0 ts
ends_expr (Operators l) ts = ends_operators l ts
ends_expr Choice ts = ends_conditional ts
ends_expr Assignment ts = ends_assignment ts
ends_expr Whole ts = ends_assignment ts && not (is_comma (front ts))

-- whether they do not go on with specifiers
abbrev pub ends_specs : List Token → Bool
ends_specs ts = not (begins_piece (front_reserved ts)) && not (is_left_brace (front ts))

-- whether they do not go on with a declarator, be it empty
abbrev pub ends_declarator : List Token → Bool
ends_declarator ts = not (is_some (front_word ts)) && (not (is_star (front ts)) && not (is_derived (suffix (front ts))))

pub record IsComplete (types : List NameId) (limit : ℕ) : Type 0 where
  pub expr : (level : Level) (h : ℕ) (t : Expr) (s rest : List Token) → Spells types level h t s → h ≤ limit → ends_expr level rest ≡ true
      → (u : Bool) × (expr_at types limit level (s ++ rest) ≡ Some (read (operand t u) h rest))
  -- a limit of 0 reads nothing, not even specifiers without a body
  pub specs : (h : ℕ) (f : Specified) (s rest : List Token) → Specifies types h f s → h ≤ limit → 1 ≤ limit → ends_specs rest ≡ true
      → specs_at types limit (s ++ rest) ≡ Some (read f h rest)
  pub declarator : (n : Naming) (c : Core) (h : ℕ) (t : Declarator) (s rest : List Token) → Declares types n c h t s → h ≤ limit → ends_declarator rest ≡ true
      → declarator_at types limit n (s ++ rest) ≡ Some (read (declared t c) h rest)

-- ---- how phrases begin

-- whether a token may begin an expression
abbrev pub opens_expr : List NameId → Kind → Bool
opens_expr types (k.Word w) = not (is_type types w)
opens_expr types (k.Int i) = true
opens_expr types (k.Char c) = true
opens_expr types k.Odd = true
opens_expr types (k.Str x) = true
opens_expr types (k.Punct p) = is_left_paren (Some p) || (is_some (unary_at (Some p)) || is_some (step_at (Some p)))
opens_expr types (k.Reserved r) = is_sizeof (Some r)

pub record BeginsExpr (types : List NameId) (s : List Token) : Type 0 where
  pub first : Token
  pub others : List Token
  pub whole : s ≡ first ∷ others
  pub opens : opens_expr types first.kind ≡ true

pub record BeginsSpecs (types : List NameId) (s : List Token) : Type 0 where
  pub first : Token
  pub others : List Token
  pub whole : s ≡ first ∷ others
  pub opens : begins_type types (first ∷ []) ≡ true

-- whether a token may begin a declarator that has to have a name
abbrev pub opens_declarator : Kind → Bool
opens_declarator (k.Word w) = true
opens_declarator (k.Punct p) = is_star (Some p) || is_left_paren (Some p)
opens_declarator _ = false

pub record BeginsDeclarator (s : List Token) : Type 0 where
  pub first : Token
  pub others : List Token
  pub whole : s ≡ first ∷ others
  pub opens : opens_declarator first.kind ≡ true
