-- Which words are reserved (C11 6.4.1), and which of those leave nothing.
--
-- `__const` and the like mean what the keyword without the underscores does.
use Rattle.std.specs.Prelude.{ℕ, List, [], ◌∷◌, codes, Option}
use Rattle.sc_tree.specs.declared.token.Reserved.{Reserved}
use Rattle.sc_tree.specs.declared.token.Reserved.TheVariants as word
use Rattle.sc_tree.specs.Tables.{Table, named}

-- each reserved word with what it means
abbrev pub reserved_words : Table Reserved
reserved_words =
    (codes "auto", word.Auto)
    ∷ (codes "break", word.Break)
    ∷ (codes "case", word.Case)
    ∷ (codes "char", word.Char)
    ∷ (codes "const", word.Const)
    ∷ (codes "continue", word.Continue)
    ∷ (codes "default", word.Default)
    ∷ (codes "do", word.Do)
    ∷ (codes "double", word.Double)
    ∷ (codes "else", word.Else)
    ∷ (codes "enum", word.Enum)
    ∷ (codes "extern", word.Extern)
    ∷ (codes "float", word.Float)
    ∷ (codes "for", word.For)
    ∷ (codes "goto", word.Goto)
    ∷ (codes "if", word.If)
    ∷ (codes "inline", word.Inline)
    ∷ (codes "int", word.Int)
    ∷ (codes "long", word.Long)
    ∷ (codes "register", word.Register)
    ∷ (codes "restrict", word.Restrict)
    ∷ (codes "return", word.Return)
    ∷ (codes "short", word.Short)
    ∷ (codes "signed", word.Signed)
    ∷ (codes "sizeof", word.Sizeof)
    ∷ (codes "static", word.Static)
    ∷ (codes "struct", word.Struct)
    ∷ (codes "switch", word.Switch)
    ∷ (codes "typedef", word.Typedef)
    ∷ (codes "union", word.Union)
    ∷ (codes "unsigned", word.Unsigned)
    ∷ (codes "void", word.Void)
    ∷ (codes "volatile", word.Volatile)
    ∷ (codes "while", word.While)
    ∷ (codes "_Alignas", word.Alignas)
    ∷ (codes "_Alignof", word.Alignof)
    ∷ (codes "_Atomic", word.Atomic)
    ∷ (codes "_Bool", word.Bool)
    ∷ (codes "_Complex", word.Complex)
    ∷ (codes "_Generic", word.Generic)
    ∷ (codes "_Imaginary", word.Imaginary)
    ∷ (codes "_Noreturn", word.Noreturn)
    ∷ (codes "_Static_assert", word.StaticAssert)
    ∷ (codes "_Thread_local", word.ThreadLocal)
    ∷ (codes "asm", word.Asm)
    ∷ (codes "__asm", word.AsmPrefixed)
    ∷ (codes "__asm__", word.AsmEnclosed)
    ∷ (codes "typeof", word.Typeof)
    ∷ (codes "__typeof", word.TypeofPrefixed)
    ∷ (codes "__typeof__", word.TypeofEnclosed)
    ∷ (codes "__builtin_va_list", word.BuiltinVaList)
    ∷ (codes "__signed", word.Signed)
    ∷ (codes "__signed__", word.Signed)
    ∷ (codes "__inline", word.Inline)
    ∷ (codes "__inline__", word.Inline)
    ∷ (codes "__const", word.Const)
    ∷ (codes "__const__", word.Const)
    ∷ (codes "__volatile", word.Volatile)
    ∷ (codes "__volatile__", word.Volatile)
    ∷ (codes "__restrict", word.Restrict)
    ∷ (codes "__restrict__", word.Restrict)
    ∷ (codes "__thread", word.ThreadLocal)
    ∷ (codes "__extension__", word.Extension)
    ∷ (codes "__attribute__", word.Attribute)
    ∷ (codes "__attribute", word.Attribute)
    ∷ []

-- what a word is reserved for
unfoldable pub reserved : List ℕ → Option Reserved
reserved text = named reserved_words text
