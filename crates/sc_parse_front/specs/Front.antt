-- What stands at the front of some tokens.
use Rattle.std.specs.Prelude.{Bool, true, false, ◌||◌, List, [], ◌∷◌, Option, Some, None, if◌then◌else◌}
use Rattle.sc_base.specs.declared.pos.NameId.{NameId}
use Rattle.sc_tree.specs.declared.token.Token.{Token}
use Rattle.sc_tree.specs.declared.token.Kind.{Kind}
use Rattle.sc_tree.specs.declared.token.Kind.TheVariants as k
use Rattle.sc_tree.specs.declared.token.Punct.{Punct}
use Rattle.sc_tree.specs.declared.token.Punct.TheVariants as sign
use Rattle.sc_tree.specs.declared.token.Reserved.{Reserved}
use Rattle.sc_tree.specs.declared.token.Reserved.TheVariants as key
use Rattle.sc_tree.specs.declared.token.StrToken.{StrToken}
use Rattle.sc_tree.specs.declared.op.BinaryOp.{BinaryOp}
use Rattle.sc_tree.specs.declared.op.UnaryOp.{UnaryOp}
use Rattle.sc_tree.specs.declared.op.AssignOp.{AssignOp}
use Rattle.sc_tree.specs.declared.op.Step.{Step}
use Rattle.sc_tree.specs.declared.op.Step.TheVariants as steps
use Rattle.sc_tree.specs.Operators.{Binding, binary, unary, step, assign}
use Rattle.sc_tree.specs.TypeWords.{storage_word, type_word}
use Rattle.sc_tree.specs.Tokens.{is_type}
use Rattle.sc_tree.specs.Grammar.{record_word}
use Rattle.sc_tree.specs.Tables.{◌>>=◌}
use Rattle.std.specs.Prelude.{ℕ, nat_eq}

abbrev pub punct_of : Kind → Option Punct
punct_of (k.Punct p) = Some p
punct_of _ = None

abbrev pub word_of : Kind → Option NameId
word_of (k.Word w) = Some w
word_of _ = None

abbrev pub reserved_of : Kind → Option Reserved
reserved_of (k.Reserved r) = Some r
reserved_of _ = None

abbrev pub string_of : Kind → Option StrToken
string_of (k.Str x) = Some x
string_of _ = None

-- the punctuator, the word and the reserved word at the front
abbrev pub front : List Token → Option Punct
front [] = None
front (t ∷ ts) = punct_of t.kind

abbrev pub front_word : List Token → Option NameId
front_word [] = None
front_word (t ∷ ts) = word_of t.kind

abbrev pub front_reserved : List Token → Option Reserved
front_reserved [] = None
front_reserved (t ∷ ts) = reserved_of t.kind

abbrev pub front_string : List Token → Option StrToken
front_string [] = None
front_string (t ∷ ts) = string_of t.kind

-- what the first token is
abbrev pub front_kind : List Token → Option Kind
front_kind [] = None
front_kind (t ∷ ts) = Some t.kind

-- the tokens behind the first
abbrev pub behind : List Token → List Token
behind [] = []
behind (t ∷ ts) = ts

abbrev pub is_left_paren : Option Punct → Bool
is_left_paren (Some sign.LeftParen) = true
is_left_paren _ = false

abbrev pub is_right_paren : Option Punct → Bool
is_right_paren (Some sign.RightParen) = true
is_right_paren _ = false

abbrev pub is_left_bracket : Option Punct → Bool
is_left_bracket (Some sign.LeftBracket) = true
is_left_bracket _ = false

abbrev pub is_right_bracket : Option Punct → Bool
is_right_bracket (Some sign.RightBracket) = true
is_right_bracket _ = false

abbrev pub is_left_brace : Option Punct → Bool
is_left_brace (Some sign.LeftBrace) = true
is_left_brace _ = false

abbrev pub is_right_brace : Option Punct → Bool
is_right_brace (Some sign.RightBrace) = true
is_right_brace _ = false

abbrev pub is_comma : Option Punct → Bool
is_comma (Some sign.Comma) = true
is_comma _ = false

abbrev pub is_colon : Option Punct → Bool
is_colon (Some sign.Colon) = true
is_colon _ = false

abbrev pub is_question : Option Punct → Bool
is_question (Some sign.Question) = true
is_question _ = false

abbrev pub is_semicolon : Option Punct → Bool
is_semicolon (Some sign.Semicolon) = true
is_semicolon _ = false

abbrev pub is_star : Option Punct → Bool
is_star (Some sign.Star) = true
is_star _ = false

abbrev pub is_equals : Option Punct → Bool
is_equals (Some sign.Assign) = true
is_equals _ = false

abbrev pub is_ellipsis : Option Punct → Bool
is_ellipsis (Some sign.Ellipsis) = true
is_ellipsis _ = false

abbrev pub is_void_key : Option Reserved → Bool
is_void_key (Some key.Void) = true
is_void_key _ = false

abbrev pub is_sizeof : Option Reserved → Bool
is_sizeof (Some key.Sizeof) = true
is_sizeof _ = false

abbrev pub is_enum : Option Reserved → Bool
is_enum (Some key.Enum) = true
is_enum _ = false

abbrev pub is_some : {A : Type 0} → Option A → Bool
is_some (Some x) = true
is_some None = false

-- whether a word of specifiers stands there: a storage word, a type word, `struct`, `union`, `enum`
abbrev pub begins_piece : Option Reserved → Bool
begins_piece None = false
begins_piece (Some w) = is_some (storage_word w) || (is_some (type_word w) || (is_some (record_word w) || is_enum (Some w)))

abbrev pub is_type_word : List NameId → Option NameId → Bool
is_type_word types None = false
is_type_word types (Some w) = is_type types w

-- whether the tokens begin with a word of specifiers or with a typedef name
abbrev pub begins_type : List NameId → List Token → Bool
begins_type types ts = begins_piece (front_reserved ts) || is_type_word types (front_word ts)

-- the operators at the front
abbrev pub at_level : ℕ → Binding → Option BinaryOp
at_level l b = if nat_eq b.level l then Some b.op else None

abbrev pub binary_at : ℕ → Option Punct → Option BinaryOp
binary_at l o = o >>= λ p. binary p >>= λ b. at_level l b

abbrev pub unary_at : Option Punct → Option UnaryOp
unary_at o = o >>= unary

abbrev pub step_at : Option Punct → Option Step
step_at o = o >>= step

abbrev pub assign_at : Option Punct → Option AssignOp
assign_at o = o >>= assign

-- What may stand behind an operand.
pub data Suffix : Type 0 where
  Indexing : Suffix
  Calling : Suffix
  Fielding : Bool → Suffix
  Stepping : Step → Suffix
  NoSuffix : Suffix

abbrev pub suffix : Option Punct → Suffix
suffix (Some sign.LeftBracket) = Indexing
suffix (Some sign.LeftParen) = Calling
suffix (Some sign.Dot) = Fielding false
suffix (Some sign.Arrow) = Fielding true
suffix (Some sign.PlusPlus) = Stepping steps.Up
suffix (Some sign.MinusMinus) = Stepping steps.Down
suffix _ = NoSuffix

abbrev pub is_suffix : Suffix → Bool
is_suffix NoSuffix = false
is_suffix _ = true

-- whether an array or the parameters of a function stand there
abbrev pub is_derived : Suffix → Bool
is_derived Indexing = true
is_derived Calling = true
is_derived _ = false
