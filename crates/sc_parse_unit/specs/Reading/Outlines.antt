-- Segments before the body of a function is read: declarations at file scope, and the heads of functions
-- (C11 6.9).
use Rattle.std.specs.Prelude.{ℕ, zero, suc, max, length, Bool, true, false, ◌&&◌, List, [], Option, Some, None, if◌then◌else◌, ◌≡◌, ◌++◌, Result, Ok, Err}
use Rattle.sc_base.specs.declared.pos.Pos.{Pos}
use Rattle.sc_base.specs.declared.pos.NameId.{NameId}
use Rattle.sc_tree.specs.declared.token.Token.{Token}
use Rattle.sc_tree.specs.declared.expr.Head.{Head, roll-Head}
use Rattle.sc_tree.specs.declared.decl.InitDeclarator.{InitDeclarator}
use Rattle.sc_tree.specs.declared.unit.FileDecl.TheVariants as file
use Rattle.sc_tree.specs.declared.grammar.Naming.TheVariants as naming
use Rattle.sc_tree.specs.declared.grammar.Core.{Core}
use Rattle.sc_tree.specs.declared.grammar.Core.TheVariants as core
use Rattle.sc_tree.specs.declared.grammar.Specified.{Specified}
use Rattle.sc_tree.specs.Tables.{◌>>=◌}
use Rattle.sc_tree.specs.Tokens.{first_pos}
use Rattle.sc_tree.specs.Statements.{declaration}
use Rattle.sc_tree.specs.Trees.{max_height}
use Rattle.sc_tree.specs.Units.{with_declared, is_braced, is_empty}
use Rattle.sc_parse_expr.specs.declared.found.Declared.{Declared}
use Rattle.sc_parse_front.specs.Front.{front, behind, is_left_brace, is_comma, is_semicolon}
use Rattle.sc_parse_expr.specs.Read.{Read, read, Parse, taking}
use Rattle.sc_parse_expr.specs.Reading.Parse.{specs_at, declarator_at}
use Rattle.sc_parse_expr.specs.Reading.Grammar.{with_item}
use Rattle.sc_parse_unit.specs.declared.found.Outline.{Outline}
use Rattle.sc_parse_unit.specs.declared.found.Outline.TheVariants as outline
use Rattle.sc_parse_front.specs.declared.error.ParseError.{ParseError}
use Rattle.sc_parse_front.specs.declared.error.ParseError.TheVariants.{Memory, NoMatch}
use Rattle.sc_parse_unit.specs.Reading.Declarations.{with_init}

-- the typedef names that were there stay, and others may stand behind them
pub record Keeps (old new : List NameId) : Type 0 where
  pub added : List NameId
  pub grown : new ≡ old ++ added

-- What the declarators of a declaration at file scope leave: them, and the typedef names behind them.
pub record FileParts : Type 0 where
  pub parts : List InitDeclarator
  pub types : List NameId

abbrev pub file_parts : List InitDeclarator → List NameId → FileParts
file_parts xs types = record { parts = xs; types = types }

-- a declarator of which the name and the parameters are read already, with the typedef names behind it
unfoldable pub file_rest : (List InitDeclarator → List NameId → ℕ → Parse FileParts) → List InitDeclarator → List NameId → ℕ
    → Read InitDeclarator → Option (Read FileParts)
file_rest go xs types h x = if is_comma (front x.rest) then go (with_item xs x.it) types (max h x.height) (behind x.rest)
    else Some (read (file_parts (with_item xs x.it) types) (max h x.height) x.rest)

unfoldable pub file_declarator : (List InitDeclarator → List NameId → ℕ → Parse FileParts) → Bool → List InitDeclarator → List NameId → ℕ
    → Read Declared → Option (Read FileParts)
file_declarator go def xs types h t = with_init (with_declared def types t.it.core) max_height t >>= file_rest go xs (with_declared def types t.it.core) h

-- the declarators of a declaration at file scope, at most so many more
unfoldable pub file_declarators : ℕ → Bool → List InitDeclarator → List NameId → ℕ → Parse FileParts
file_declarators zero def xs types h ts = None
file_declarators (suc n) def xs types h ts = declarator_at types max_height naming.Required ts
    >>= file_declarator (λ ys us m rs. file_declarators n def ys us m rs) def xs types h

-- What a segment is before its body is read: a declaration, or the head of a function and the tokens in
-- braces behind it.
pub record Outlined : Type 0 where
  pub it : Outline
  pub types : List NameId
  pub inside : List Token

abbrev pub outlined : Outline → List NameId → List Token → Outlined
outlined x types inside = record { it = x; types = types; inside = inside }

-- The call gives what the segment is before its body, with the typedef names and the tokens that are left
-- then, or that it is nothing; where memory is refused it says nothing.
abbrev pub GivesOutline : Option Outlined → Result Outline ParseError → List NameId → List Token → Type 0
GivesOutline o (Ok x) types left = o ≡ Some (outlined x types left)
GivesOutline o (Err NoMatch) types left = o ≡ None
GivesOutline o (Err Memory) types left = Unit

unfoldable pub ended : Pos → Read Specified → Read FileParts → Option Outlined
ended p f xs = taking is_semicolon xs.rest >>= λ rest. if is_empty rest then
    Some (outlined (outline.Decl (file.Full (declaration p f.it xs.it.parts))) xs.it.types []) else None

abbrev pub is_function : Core → Bool
is_function (core.Function w true) = true
is_function _ = false

abbrev pub head_of : Pos → Specified → Declared → Head
head_of p f t = roll-Head (record { pos = p; specs = f.specs; declarator = t.declarator })

unfoldable pub function_head : List NameId → Pos → Read Specified → Read Declared → Option Outlined
function_head types p f t = if is_function t.it.core && is_braced t.rest
    then Some (outlined (outline.Function (head_of p f.it t.it)) types t.rest) else None

unfoldable pub first_declared : List NameId → Pos → Read Specified → Read Declared → Option Outlined
first_declared types p f t = if is_left_brace (front t.rest) then function_head types p f t
    else (file_declarator (λ xs us m rs. file_declarators (length rs) f.it.typedef xs us m rs) f.it.typedef [] types 0 t >>= ended p f)

unfoldable pub specified : List NameId → Pos → Read Specified → Option Outlined
specified types p f = if is_semicolon (front f.rest)
    then (if is_empty (behind f.rest) then Some (outlined (outline.Decl (file.Full (declaration p f.it []))) types []) else None)
    else (declarator_at types max_height naming.Required f.rest >>= first_declared types p f)

abbrev pub is_lone_semicolon : List Token → Bool
is_lone_semicolon ts = is_semicolon (front ts) && is_empty (behind ts)

unfoldable pub outline_of : List NameId → List Token → Option Outlined
outline_of types ts = if is_lone_semicolon ts then Some (outlined (outline.Decl (file.Empty (first_pos ts))) types [])
    else (specs_at types max_height ts >>= specified types (first_pos ts))
