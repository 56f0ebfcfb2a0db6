-- The kinds of integers (C11 6.2.5): how wide they are, which are signed, and in which kind a value of
-- them is computed (C11 6.3.1.1, 6.3.1.8).
use Rattle.std.specs.Prelude.{ℕ, ◌*◌, nat_lt, nat_le, Bool, true, false, if◌then◌else◌}
use Rattle.sc_tree.specs.declared.ctype.IntKind.{IntKind}
use Rattle.sc_tree.specs.declared.ctype.IntKind.TheVariants as kind
use Rattle.sc_tree.specs.declared.ctype.Widths.{Widths}
use Rattle.sc_tree.specs.declared.ctype.Widths.TheVariants as widths

-- the bytes of a `long` and of a pointer
abbrev pub word_bytes : Widths → ℕ
word_bytes widths.Ilp32 = 4
word_bytes widths.Lp64 = 8

-- the bytes of an integer
abbrev pub kind_bytes : Widths → IntKind → ℕ
kind_bytes w kind.Char = 1
kind_bytes w kind.SChar = 1
kind_bytes w kind.UChar = 1
kind_bytes w kind.Short = 2
kind_bytes w kind.UShort = 2
kind_bytes w kind.Int = 4
kind_bytes w kind.UInt = 4
kind_bytes w kind.Long = word_bytes w
kind_bytes w kind.ULong = word_bytes w
kind_bytes w kind.LongLong = 8
kind_bytes w kind.ULongLong = 8

-- its bits
abbrev pub kind_bits : Widths → IntKind → ℕ
kind_bits w k = 8 * kind_bytes w k

-- whether it has a sign; `char` has one
abbrev pub is_signed : IntKind → Bool
is_signed kind.Char = true
is_signed kind.SChar = true
is_signed kind.UChar = false
is_signed kind.Short = true
is_signed kind.UShort = false
is_signed kind.Int = true
is_signed kind.UInt = false
is_signed kind.Long = true
is_signed kind.ULong = false
is_signed kind.LongLong = true
is_signed kind.ULongLong = false

-- the integer promotions: a kind of 8 or 16 bits becomes `int` (C11 6.3.1.1)
abbrev pub promoted : IntKind → IntKind
promoted kind.Char = kind.Int
promoted kind.SChar = kind.Int
promoted kind.UChar = kind.Int
promoted kind.Short = kind.Int
promoted kind.UShort = kind.Int
promoted kind.Int = kind.Int
promoted kind.UInt = kind.UInt
promoted kind.Long = kind.Long
promoted kind.ULong = kind.ULong
promoted kind.LongLong = kind.LongLong
promoted kind.ULongLong = kind.ULongLong

-- the rank of a promoted kind; an unsigned kind has that of its signed one (C11 6.3.1.1)
abbrev pub rank : IntKind → ℕ
rank kind.Long = 2
rank kind.ULong = 2
rank kind.LongLong = 3
rank kind.ULongLong = 3
rank _ = 1

-- the unsigned kind of a promoted kind
abbrev pub unsigned : IntKind → IntKind
unsigned kind.Long = kind.ULong
unsigned kind.LongLong = kind.ULongLong
unsigned kind.ULong = kind.ULong
unsigned kind.ULongLong = kind.ULongLong
unsigned _ = kind.UInt

-- of two promoted kinds of one signedness the one of greater rank
abbrev pub greater : IntKind → IntKind → IntKind
greater a b = if nat_lt (rank a) (rank b) then b else a

-- of an unsigned and a signed kind the unsigned one where its rank is not less, else the signed one where
-- it is wider, else the unsigned kind of the signed one
abbrev pub mixed : Widths → (u s : IntKind) → IntKind
mixed w u s = if nat_le (rank s) (rank u) then u else (if nat_lt (kind_bytes w u) (kind_bytes w s) then s else unsigned s)

-- the kind in which two promoted kinds meet
abbrev pub meet : Widths → IntKind → IntKind → IntKind
meet w a b =
    if is_signed a
    then (if is_signed b then greater a b else mixed w b a)
    else (if is_signed b then mixed w a b else greater a b)

-- the usual arithmetic conversions (C11 6.3.1.8): the kind in which two operands meet
abbrev pub common : Widths → IntKind → IntKind → IntKind
common w a b = meet w (promoted a) (promoted b)

-- whether two kinds are one
abbrev pub same_kind : IntKind → IntKind → Bool
same_kind kind.Char kind.Char = true
same_kind kind.SChar kind.SChar = true
same_kind kind.UChar kind.UChar = true
same_kind kind.Short kind.Short = true
same_kind kind.UShort kind.UShort = true
same_kind kind.Int kind.Int = true
same_kind kind.UInt kind.UInt = true
same_kind kind.Long kind.Long = true
same_kind kind.ULong kind.ULong = true
same_kind kind.LongLong kind.LongLong = true
same_kind kind.ULongLong kind.ULongLong = true
same_kind _ _ = false
