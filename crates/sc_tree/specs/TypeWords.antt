-- The words of types (C11 6.7.2), in any order.
use Rattle.std.specs.Prelude.{Bool, true, false, Option, Some, None}
use Rattle.sc_tree.specs.declared.token.Reserved.{Reserved}
use Rattle.sc_tree.specs.declared.token.Reserved.TheVariants as r
use Rattle.sc_tree.specs.declared.expr.Storage.{Storage}
use Rattle.sc_tree.specs.declared.expr.Storage.TheVariants as storage
use Rattle.sc_tree.specs.declared.grammar.TypeWord.{TypeWord}
use Rattle.sc_tree.specs.declared.grammar.TypeWord.TheVariants as w
use Rattle.sc_tree.specs.declared.grammar.MainWord.{MainWord}
use Rattle.sc_tree.specs.declared.grammar.MainWord.TheVariants as main
use Rattle.sc_tree.specs.declared.grammar.Length.{Length}
use Rattle.sc_tree.specs.declared.grammar.Length.TheVariants as how_long
use Rattle.sc_tree.specs.declared.grammar.Sign.{Sign}
use Rattle.sc_tree.specs.declared.grammar.Sign.TheVariants as sign
use Rattle.sc_tree.specs.declared.grammar.TypeWords.{TypeWords}
use Rattle.sc_tree.specs.declared.ctype.CType.{CType}
use Rattle.sc_tree.specs.declared.ctype.CType.TheVariants as c
use Rattle.sc_tree.specs.declared.ctype.IntKind.{IntKind}
use Rattle.sc_tree.specs.declared.ctype.IntKind.TheVariants as i
use Rattle.sc_tree.specs.declared.ctype.OpaqueKind.TheVariants as o

-- the storage word that a reserved word is (C11 6.7.1, 6.7.4)
abbrev pub storage_word : Reserved → Option Storage
storage_word r.Typedef = Some storage.Typedef
storage_word r.Extern = Some storage.Extern
storage_word r.Static = Some storage.Static
storage_word r.Inline = Some storage.Inline
storage_word _ = None

-- the type word that it is
abbrev pub type_word : Reserved → Option TypeWord
type_word r.Void = Some (w.Main main.Void)
type_word r.Bool = Some (w.Main main.Bool)
type_word r.Char = Some (w.Main main.Char)
type_word r.Float = Some (w.Main main.Float)
type_word r.Double = Some (w.Main main.Double)
type_word r.BuiltinVaList = Some (w.Main main.VaList)
type_word r.Short = Some w.Short
type_word r.Long = Some w.Long
type_word r.Int = Some w.Int
type_word r.Signed = Some w.Signed
type_word r.Unsigned = Some w.Unsigned
type_word _ = None

-- no word yet
abbrev pub no_words : TypeWords
no_words = record { main = None; sign = None; length = how_long.Plain; int = false }

abbrev pub with_main : TypeWords → MainWord → Option MainWord → Option TypeWords
with_main ws m None = Some (record ws { main = Some m })
with_main ws m (Some n) = None

abbrev pub with_sign : TypeWords → Sign → Option Sign → Option TypeWords
with_sign ws g None = Some (record ws { sign = Some g })
with_sign ws g (Some h) = None

abbrev pub with_short : TypeWords → Length → Option TypeWords
with_short ws how_long.Plain = Some (record ws { length = how_long.Short })
with_short ws _ = None

abbrev pub with_long : TypeWords → Length → Option TypeWords
with_long ws how_long.Plain = Some (record ws { length = how_long.Long })
with_long ws how_long.Long = Some (record ws { length = how_long.LongLong })
with_long ws _ = None

abbrev pub with_int : TypeWords → Bool → Option TypeWords
with_int ws false = Some (record ws { int = true })
with_int ws true = None

-- one word more: none stands twice but `long`, and no two say how long or of which sign
abbrev pub with_word : TypeWords → TypeWord → Option TypeWords
with_word ws (w.Main m) = with_main ws m ws.main
with_word ws w.Short = with_short ws ws.length
with_word ws w.Long = with_long ws ws.length
with_word ws w.Int = with_int ws ws.int
with_word ws w.Signed = with_sign ws sign.Signed ws.sign
with_word ws w.Unsigned = with_sign ws sign.Unsigned ws.sign

-- a main word without `signed`, `unsigned` and `int`
abbrev pub main_alone : MainWord → Length → Option CType
main_alone main.Void how_long.Plain = Some c.Void
main_alone main.Bool how_long.Plain = Some c.Bool
main_alone main.Char how_long.Plain = Some (c.Int i.Char)
main_alone main.Float how_long.Plain = Some (c.Opaque o.Float)
main_alone main.Double how_long.Plain = Some (c.Opaque o.Double)
main_alone main.Double how_long.Long = Some (c.Opaque o.LongDouble)
main_alone main.VaList how_long.Plain = Some (c.Opaque o.VaList)
main_alone _ _ = None

-- a main word with `signed` or `unsigned`
abbrev pub main_signed : MainWord → Sign → Length → Option CType
main_signed main.Char sign.Signed how_long.Plain = Some (c.Int i.SChar)
main_signed main.Char sign.Unsigned how_long.Plain = Some (c.Int i.UChar)
main_signed _ _ _ = None

abbrev pub signed_kind : Length → IntKind
signed_kind how_long.Plain = i.Int
signed_kind how_long.Short = i.Short
signed_kind how_long.Long = i.Long
signed_kind how_long.LongLong = i.LongLong

abbrev pub unsigned_kind : Length → IntKind
unsigned_kind how_long.Plain = i.UInt
unsigned_kind how_long.Short = i.UShort
unsigned_kind how_long.Long = i.ULong
unsigned_kind how_long.LongLong = i.ULongLong

-- no main word: an integer type, if a word is there at all
abbrev pub without_main : Option Sign → Length → Bool → Option CType
without_main (Some sign.Unsigned) l n = Some (c.Int (unsigned_kind l))
without_main (Some sign.Signed) l n = Some (c.Int (signed_kind l))
without_main None how_long.Plain false = None
without_main None l n = Some (c.Int (signed_kind l))

-- the type that the words name (C11 6.7.2, paragraph 2)
abbrev pub type_by : Option MainWord → Option Sign → Length → Bool → Option CType
type_by None g l n = without_main g l n
type_by (Some m) g l true = None
type_by (Some m) None l false = main_alone m l
type_by (Some m) (Some g) l false = main_signed m g l

abbrev pub type_of : TypeWords → Option CType
type_of ws = type_by ws.main ws.sign ws.length ws.int
