-- Numbers of a fixed width (C11 6.2.6.2, 6.5). A number of n bits is a natural number below 2 ^ n; one of a
-- signed type stands in two's complement. Signed arithmetic wraps, and `>>` of a negative number copies
-- its sign.
use Rattle.std.specs.Prelude.{ℕ, ◌+◌, ◌-◌, ◌*◌, ◌/◌, ◌%◌, ◌^◌, nat_eq, nat_lt, Bool, true, false, not, ◌&&◌, ◌||◌, ℤ, pos, negsuc, ◌-ℤ◌, int_div, int_rem, int_lt, bit_and, bit_or, bit_xor, if◌then◌else◌}
use Rattle.sc_tree.specs.declared.op.BinaryOp.{BinaryOp}
use Rattle.sc_tree.specs.declared.op.BinaryOp.TheVariants as op
use Rattle.sc_tree.specs.declared.op.UnaryOp.{UnaryOp}
use Rattle.sc_tree.specs.declared.op.UnaryOp.TheVariants as sign
use Rattle.sc_tree.specs.declared.ctype.CType.{CType}
use Rattle.sc_tree.specs.declared.ctype.Widths.{Widths}
use Rattle.sc_typed.specs.Types.{is_bool, has_sign, value_bits}

-- the number that a natural number of that width stands for
abbrev pub signed : (bits n : ℕ) → ℤ
signed bits n = if nat_lt n (2 ^ (bits - 1)) then pos n else pos n -ℤ pos (2 ^ bits)

-- the low bits of a number: the number modulo 2 ^ bits (C11 6.3.1.3)
abbrev pub wrapped : (bits : ℕ) → ℤ → ℕ
wrapped bits (pos n) = n % 2 ^ bits
wrapped bits (negsuc n) = 2 ^ bits - 1 - n % 2 ^ bits

-- the truth of a test as an `int`
abbrev pub truth : Bool → ℕ
truth true = 1
truth false = 0

-- an integer divided by a power of 2 and rounded down
abbrev pub moved_down : ℤ → ℕ → ℤ
moved_down (pos n) k = pos (n / 2 ^ k)
moved_down (negsuc n) k = negsuc (n / 2 ^ k)

-- the quotient, rounded toward zero, and its remainder (C11 6.5.5)
abbrev pub quotient : (bits : ℕ) (sign : Bool) (a b : ℕ) → ℕ
quotient bits true a b = wrapped bits (int_div (signed bits a) (signed bits b))
quotient bits false a b = a / b

abbrev pub remainder : (bits : ℕ) (sign : Bool) (a b : ℕ) → ℕ
remainder bits true a b = wrapped bits (int_rem (signed bits a) (signed bits b))
remainder bits false a b = a % b

abbrev pub shifted_right : (bits : ℕ) (sign : Bool) (a b : ℕ) → ℕ
shifted_right bits true a b = wrapped bits (moved_down (signed bits a) b)
shifted_right bits false a b = a / 2 ^ b

abbrev pub is_less : (bits : ℕ) (sign : Bool) (a b : ℕ) → Bool
is_less bits true a b = int_lt (signed bits a) (signed bits b)
is_less bits false a b = nat_lt a b

-- What an operator makes of two numbers of one width, whether they have a sign or not. The right operand of
-- a shift may be of another width.
abbrev pub computed : BinaryOp → (bits : ℕ) (sign : Bool) (a b : ℕ) → ℕ
computed op.Mul n s a b = (a * b) % 2 ^ n
computed op.Div n s a b = quotient n s a b
computed op.Rem n s a b = remainder n s a b
computed op.Add n s a b = (a + b) % 2 ^ n
computed op.Sub n s a b = (2 ^ n + a - b) % 2 ^ n
computed op.ShiftLeft n s a b = (a * 2 ^ b) % 2 ^ n
computed op.ShiftRight n s a b = shifted_right n s a b
computed op.BitAnd n s a b = bit_and a b
computed op.BitXor n s a b = bit_xor a b
computed op.BitOr n s a b = bit_or a b
computed op.Less n s a b = truth (is_less n s a b)
computed op.Greater n s a b = truth (is_less n s b a)
computed op.LessEqual n s a b = truth (not (is_less n s b a))
computed op.GreaterEqual n s a b = truth (not (is_less n s a b))
computed op.Equal n s a b = truth (nat_eq a b)
computed op.NotEqual n s a b = truth (not (nat_eq a b))
computed op.And n s a b = truth (not (nat_eq a 0) && not (nat_eq b 0))
computed op.Or n s a b = truth (not (nat_eq a 0) || not (nat_eq b 0))

-- whether a division is one: the divisor is not 0, and it is not the least signed number by -1
abbrev pub divides : (bits : ℕ) (sign : Bool) (a b : ℕ) → Bool
divides n true a b = not (nat_eq b 0) && not (nat_eq a (2 ^ (n - 1)) && nat_eq b (2 ^ n - 1))
divides n false a b = not (nat_eq b 0)

-- Whether an operator takes two numbers: a division is one, and a shift count is below the width. (The count
-- is promoted, so one below 0 stands for a number above every width.)
abbrev pub takes : BinaryOp → (bits : ℕ) (sign : Bool) (a b : ℕ) → Bool
takes op.Div n s a b = divides n s a b
takes op.Rem n s a b = divides n s a b
takes op.ShiftLeft n s a b = nat_lt b n
takes op.ShiftRight n s a b = nat_lt b n
takes _ n s a b = true

-- what `+`, `-`, `~` and `!` make of a number
abbrev pub of_one : UnaryOp → (bits : ℕ) → ℕ → ℕ
of_one sign.Plus n a = a
of_one sign.Minus n a = (2 ^ n - a) % 2 ^ n
of_one sign.Complement n a = 2 ^ n - 1 - a
of_one sign.Not n a = truth (nat_eq a 0)
of_one _ n a = a

-- a number of `from` bits as one of `bits` bits
abbrev pub resized : (sign : Bool) (from bits : ℕ) → ℕ → ℕ
resized true from bits n = wrapped bits (signed from n)
resized false from bits n = n % 2 ^ bits

-- a number of an integer type converted to an integer type (C11 6.3.1.2, 6.3.1.3)
abbrev pub converted : Widths → (from to : CType) → ℕ → ℕ
converted w from to n =
    if is_bool to then truth (not (nat_eq n 0)) else resized (has_sign from) (value_bits w from) (value_bits w to) n

-- the number of an integer type that the bits stand for
abbrev pub number : Widths → CType → ℕ → ℤ
number w t n = if has_sign t then signed (value_bits w t) n else pos n
