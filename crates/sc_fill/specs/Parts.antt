-- The parts of an object to which values go (C11 6.7.9).
use Rattle.std.specs.Prelude.{ℕ, ◌+◌, Bool, true, false, ◌||◌, List, [], ◌∷◌, take, if◌then◌else◌}
use Rattle.sc_tree.specs.declared.ctype.CType.{CType, CType-F, out-CType}
use Rattle.sc_tree.specs.declared.ctype.IntKind.{IntKind}
use Rattle.sc_tree.specs.declared.ctype.IntKind.TheVariants as kind
use Rattle.sc_tree.specs.declared.ctype.Signature.{Signature}
use Rattle.sc_typed.specs.declared.expr.TExpr.{TExpr, out-TExpr}
use Rattle.sc_typed.specs.declared.expr.What.{What, What-F, out-What}
use Rattle.sc_typed.specs.declared.program.FieldDef.{FieldDef}
use Rattle.sc_unary.specs.Members.{Body, is_there, is_unnamed}

abbrev pub string_layer : What-F What TExpr → Bool
string_layer (What-F.Str n) = true
string_layer _ = false

-- whether an expression is a string
abbrev pub is_string : TExpr → Bool
is_string e = string_layer (out-What (out-TExpr e).what)

abbrev pub is_char_kind : IntKind → Bool
is_char_kind kind.Char = true
is_char_kind kind.SChar = true
is_char_kind kind.UChar = true
is_char_kind _ = false

abbrev pub char_layer : CType-F CType Signature → Bool
char_layer (CType-F.Int k) = is_char_kind k
char_layer _ = false

abbrev pub is_char : CType → Bool
is_char t = char_layer (out-CType t)

abbrev pub char_array_layer : CType-F CType Signature → Bool
char_array_layer (CType-F.Array t n) = is_char t
char_array_layer _ = false

-- whether it is an array of characters
abbrev pub is_char_array : CType → Bool
is_char_array t = char_array_layer (out-CType t)

-- whether a member takes values: all but bit fields without a name do
abbrev pub takes_values : FieldDef → Bool
takes_values f = is_there f.name || is_unnamed f

-- the members that take values, with their numbers, of which the first is k
abbrev pub numbered : ℕ → List FieldDef → List (ℕ × CType)
numbered k [] = []
numbered k (f ∷ fs) = if takes_values f then (k, f.ctype) ∷ numbered (k + 1) fs else numbered (k + 1) fs

abbrev pub first_alone : List (ℕ × CType) → List (ℕ × CType)
first_alone ms = take 1 ms

-- The members that values go to, with their numbers: of a union the first alone.
abbrev pub members_given : Body → List (ℕ × CType)
members_given b = if b.union then first_alone (numbered 0 b.fields) else numbered 0 b.fields
