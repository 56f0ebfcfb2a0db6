-- What is wanted, read at the front of the tokens with a tree of at most a height.
use Rattle.std.specs.Prelude.{ℕ, zero, suc, List, None}
use Rattle.sc_base.specs.declared.pos.NameId.{NameId}
use Rattle.sc_tree.specs.declared.grammar.Level.{Level}
use Rattle.sc_tree.specs.declared.grammar.Level.TheVariants.{Primary, Postfix, Prefix, Cast, Operators, Choice, Assignment, Whole}
use Rattle.sc_tree.specs.declared.grammar.Naming.{Naming}
use Rattle.sc_tree.specs.declared.grammar.Specified.{Specified}
use Rattle.sc_tree.specs.Tables.{◌>>=◌}
use Rattle.sc_parse_expr.specs.declared.found.Wanted.{Wanted}
use Rattle.sc_parse_expr.specs.declared.found.Wanted.TheVariants as want
use Rattle.sc_parse_expr.specs.declared.found.Phrase.{Phrase}
use Rattle.sc_parse_expr.specs.declared.found.Operand.{Operand}
use Rattle.sc_parse_expr.specs.declared.found.Declared.{Declared}
use Rattle.sc_parse_expr.specs.Read.{Parse}
use Rattle.sc_parse_expr.specs.Reading.Found.{expr_in, specs_in, declarator_in, as_expr, as_specs, as_declarator}
use Rattle.sc_parse_expr.specs.Reading.Primary.{primary}
use Rattle.sc_parse_expr.specs.Reading.Suffixes.{postfix}
use Rattle.sc_parse_expr.specs.Reading.Prefix.{prefix, casts}
use Rattle.sc_parse_expr.specs.Reading.Chain.{operators}
use Rattle.sc_parse_expr.specs.Reading.Conditional.{conditional}
use Rattle.sc_parse_expr.specs.Reading.Assignment.{assignment}
use Rattle.sc_parse_expr.specs.Reading.Comma.{whole}
use Rattle.sc_parse_expr.specs.Reading.Pieces.{specs}
use Rattle.sc_parse_expr.specs.Reading.Direct.{declarator}

module _ (types : List NameId) (limit : ℕ) (inner : Wanted → Parse Phrase) where
  unfoldable pub at_level : Level → Parse Operand
  at_level Primary ts = primary types limit inner ts
  at_level Postfix ts = postfix types limit inner ts
  at_level Prefix ts = prefix types limit inner ts
  at_level Cast ts = casts types limit inner ts
  at_level (Operators l) ts = operators types limit inner l ts
  at_level Choice ts = conditional types limit inner ts
  at_level Assignment ts = assignment types limit inner ts
  at_level Whole ts = whole types limit inner ts

  unfoldable pub wanted : Wanted → Parse Phrase
  wanted (want.Expr level) ts = at_level level ts >>= as_expr
  wanted want.Specs ts = specs types limit inner ts >>= as_specs
  wanted (want.Declarator n) ts = declarator types limit inner n ts >>= as_declarator

-- what is read at the front of the tokens with a tree of at most that height
unfoldable pub parse : List NameId → ℕ → Wanted → Parse Phrase
parse types zero w ts = None
parse types (suc n) w ts = wanted types (suc n) (λ v us. parse types n v us) w ts

abbrev pub expr_at : List NameId → ℕ → Level → Parse Operand
expr_at types limit level ts = parse types limit (want.Expr level) ts >>= expr_in

abbrev pub specs_at : List NameId → ℕ → Parse Specified
specs_at types limit ts = parse types limit want.Specs ts >>= specs_in

abbrev pub declarator_at : List NameId → ℕ → Naming → Parse Declared
declarator_at types limit n ts = parse types limit (want.Declarator n) ts >>= declarator_in
