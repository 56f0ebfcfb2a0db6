-- The parts of a tree, read by `inner`, which reads trees that are lower by one; and lists of what was read.
use Rattle.std.specs.Prelude.{ℕ, max, Bool, false, List, [], ◌∷◌, ◌++◌, Option, Some}
use Rattle.sc_base.specs.declared.pos.Pos.{Pos}
use Rattle.sc_base.specs.declared.pos.NameId.{NameId}
use Rattle.sc_tree.specs.declared.token.Token.{Token}
use Rattle.sc_tree.specs.declared.token.Punct.{Punct}
use Rattle.sc_tree.specs.declared.expr.Place.{Place}
use Rattle.sc_tree.specs.declared.expr.Expr.{Expr}
use Rattle.sc_tree.specs.declared.expr.Head.{roll-Head}
use Rattle.sc_tree.specs.declared.grammar.Level.{Level}
use Rattle.sc_tree.specs.declared.grammar.Naming.{Naming}
use Rattle.sc_tree.specs.declared.grammar.Specified.{Specified}
use Rattle.sc_tree.specs.Tables.{◌>>=◌}
use Rattle.sc_tree.specs.Tokens.{first_pos}
use Rattle.sc_tree.specs.Grammar.{is_named}
use Rattle.sc_parse_expr.specs.declared.found.Wanted.{Wanted}
use Rattle.sc_parse_expr.specs.declared.found.Wanted.TheVariants as want
use Rattle.sc_parse_expr.specs.declared.found.Phrase.{Phrase}
use Rattle.sc_parse_expr.specs.declared.found.Operand.{Operand}
use Rattle.sc_parse_expr.specs.declared.found.Declared.{Declared}
use Rattle.sc_parse_expr.specs.declared.found.Headed.{Headed}
use Rattle.sc_parse_expr.specs.Read.{Read, read, Parse}
use Rattle.sc_parse_expr.specs.Reading.Found.{expr_in, specs_in, declarator_in}

-- an expression that begins there, and for which that token stands
abbrev pub place : Pos → Pos → Place
place begin p = record { token = p; first = begin }

abbrev pub with_tree : List Expr → Operand → List Expr
with_tree ts x = ts ++ x.tree ∷ []

abbrev pub with_item : {A : Type 0} → List A → A → List A
with_item xs x = xs ++ x ∷ []

abbrev pub never : Option Punct → Bool
never o = false

module _ (types : List NameId) (limit : ℕ) (inner : Wanted → Parse Phrase) where
  abbrev pub inner_expr : Level → Parse Operand
  inner_expr level ts = inner (want.Expr level) ts >>= expr_in

  abbrev pub inner_specs : Parse Specified
  inner_specs ts = inner want.Specs ts >>= specs_in

  abbrev pub inner_declarator : Naming → Parse Declared
  inner_declarator n ts = inner (want.Declarator n) ts >>= declarator_in

  -- specifiers and a declarator
  unfoldable pub headed : List Token → Read Specified → Read Declared → Read Headed
  headed ts s t = read (record {
    head = roll-Head (record { pos = first_pos ts; specs = s.it.specs; declarator = t.it.declarator });
    named =
        is_named t.it.core;
  }) (max s.height t.height) t.rest

  unfoldable pub inner_head : Naming → Parse Headed
  inner_head n ts = inner_specs ts >>= λ s. inner_declarator n s.rest >>= λ t. Some (headed ts s t)
