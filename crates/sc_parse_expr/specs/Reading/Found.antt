-- What is kept of what was read, and which phrase it is.
use Rattle.std.specs.Prelude.{Bool, true, false, Option, Some, None}
use Rattle.sc_tree.specs.declared.expr.Expr.{Expr}
use Rattle.sc_tree.specs.declared.expr.Declarator.{Declarator}
use Rattle.sc_tree.specs.declared.grammar.Core.{Core}
use Rattle.sc_tree.specs.declared.grammar.Specified.{Specified}
use Rattle.sc_parse_expr.specs.declared.found.Phrase.{Phrase}
use Rattle.sc_parse_expr.specs.declared.found.Phrase.TheVariants as phrase
use Rattle.sc_parse_expr.specs.declared.found.Operand.{Operand}
use Rattle.sc_parse_expr.specs.declared.found.Declared.{Declared}
use Rattle.sc_parse_expr.specs.Read.{Read, read}

abbrev pub operand : Expr → Bool → Operand
operand t unary = record { tree = t; unary = unary }

abbrev pub declared : Declarator → Core → Declared
declared t c = record { declarator = t; core = c }

abbrev pub expr_in : Read Phrase → Option (Read Operand)
expr_in r = elim r.it [ phrase.Expr x ↦ Some (read x r.height r.rest) | phrase.Specs x ↦ None | phrase.Declarator x ↦ None ]

abbrev pub specs_in : Read Phrase → Option (Read Specified)
specs_in r = elim r.it [ phrase.Expr x ↦ None | phrase.Specs x ↦ Some (read x r.height r.rest) | phrase.Declarator x ↦ None ]

abbrev pub declarator_in : Read Phrase → Option (Read Declared)
declarator_in r = elim r.it [ phrase.Expr x ↦ None | phrase.Specs x ↦ None | phrase.Declarator x ↦ Some (read x r.height r.rest) ]

abbrev pub as_expr : Read Operand → Option (Read Phrase)
as_expr r = Some (read (phrase.Expr r.it) r.height r.rest)

abbrev pub as_specs : Read Specified → Option (Read Phrase)
as_specs r = Some (read (phrase.Specs r.it) r.height r.rest)

abbrev pub as_declarator : Read Declared → Option (Read Phrase)
as_declarator r = Some (read (phrase.Declarator r.it) r.height r.rest)

-- which phrase it is
abbrev pub is_expr : Phrase → Bool
is_expr x = elim x [ phrase.Expr a ↦ true | phrase.Specs a ↦ false | phrase.Declarator a ↦ false ]

abbrev pub are_specs : Phrase → Bool
are_specs x = elim x [ phrase.Expr a ↦ false | phrase.Specs a ↦ true | phrase.Declarator a ↦ false ]

abbrev pub is_declarator : Phrase → Bool
is_declarator x = elim x [ phrase.Expr a ↦ false | phrase.Specs a ↦ false | phrase.Declarator a ↦ true ]
