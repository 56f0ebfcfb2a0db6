-- Declarations in a body (C11 6.7).
use Rattle.std.specs.Prelude.{ℕ, max, length, Bool, true, false, not, ◌&&◌, List, [], Option, Some, None, if◌then◌else◌}
use Rattle.sc_base.specs.declared.pos.Pos.{Pos}
use Rattle.sc_base.specs.declared.pos.NameId.{NameId}
use Rattle.sc_tree.specs.declared.expr.Declarator.{Declarator}
use Rattle.sc_tree.specs.declared.decl.Init.{Init}
use Rattle.sc_tree.specs.declared.decl.Decl.{Decl}
use Rattle.sc_tree.specs.declared.decl.InitDeclarator.{InitDeclarator}
use Rattle.sc_tree.specs.declared.grammar.Naming.TheVariants as naming
use Rattle.sc_tree.specs.declared.grammar.BodyForm.{BodyForm}
use Rattle.sc_tree.specs.declared.grammar.BodyForm.TheVariants as form
use Rattle.sc_tree.specs.declared.grammar.Specified.{Specified}
use Rattle.sc_tree.specs.Tables.{◌>>=◌}
use Rattle.sc_tree.specs.Tokens.{first_pos}
use Rattle.sc_tree.specs.Statements.{declaration}
use Rattle.sc_parse_expr.specs.declared.found.Declared.{Declared}
use Rattle.sc_parse_front.specs.Front.{front, behind, is_semicolon, is_equals}
use Rattle.sc_parse_expr.specs.Read.{Read, read, Parse, taking, commas}
use Rattle.sc_parse_expr.specs.Reading.Parse.{specs_at, declarator_at}
use Rattle.sc_parse_expr.specs.Reading.Grammar.{with_item, never}
use Rattle.sc_parse_unit.specs.Reading.Initialisers.{initialiser}

abbrev pub declared_as : Declarator → Option Init → InitDeclarator
declared_as t i = record { declarator = t; init = i }

-- a declarator with what follows it, where these are the typedef names behind it
unfoldable pub with_init : List NameId → ℕ → Read Declared → Option (Read InitDeclarator)
with_init types limit t = if is_equals (front t.rest)
    then (initialiser types limit (behind t.rest) >>= λ i. Some (read (declared_as t.it.declarator (Some i.it)) (max t.height i.height) i.rest))
    else Some (read (declared_as t.it.declarator None) t.height t.rest)

unfoldable pub init_declarator : List NameId → ℕ → Parse InitDeclarator
init_declarator types limit ts = declarator_at types limit naming.Required ts >>= with_init types limit

-- declarators with commas between, one at least
abbrev pub some_declarators : List NameId → ℕ → Parse (List InitDeclarator)
some_declarators types limit ts = commas (init_declarator types limit) with_item never (length ts) [] 0 ts >>= λ r. Some (read r.it.items r.height r.rest)

abbrev pub is_plain_form : BodyForm → Bool
is_plain_form form.NoBody = true
is_plain_form _ = false

abbrev pub is_plain : Specified → Bool
is_plain f = not f.typedef && is_plain_form f.form

unfoldable pub declarators : List NameId → ℕ → Pos → Read Specified → Option (Read Decl)
declarators types limit p f = commas (init_declarator types limit) with_item never (length f.rest) [] 0 f.rest >>= λ xs. taking is_semicolon xs.rest >>= λ rest.
    Some (read (declaration p f.it xs.it.items) (max f.height xs.height) rest)

unfoldable pub declared_plain : List NameId → ℕ → Pos → Read Specified → Option (Read Decl)
declared_plain types limit p f = if is_semicolon (front f.rest) then
    Some (read (declaration p f.it []) f.height (behind f.rest)) else declarators types limit p f

unfoldable pub body_declaration : List NameId → ℕ → Parse Decl
body_declaration types limit ts = specs_at types limit ts >>= λ f. if is_plain f.it then declared_plain types limit (first_pos ts) f else None
