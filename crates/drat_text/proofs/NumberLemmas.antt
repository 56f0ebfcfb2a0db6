-- A word of which the front is too great a number is no number.
use Rattle.std.proofs.Common.{◌≡◌, ℕ, ◌+◌, ◌-◌, ◌*◌, ◌≤◌, ◌<◌, Bool, true, false, List, [], ◌∷◌, refl, arith, None}
use Rattle.std.specs.Prelude.{◌&&◌, nat_le}
use Rattle.std.specs.Char.{is_ascii_digit}
use Rattle.std.specs.List.{list_all}
use Rattle.std.proofs.lemmas.Bool.Decides.{nat_tests}
use Rattle.drat_text.specs.Parts.{has_bytes}
use Rattle.drat_text.specs.Numbers.{decimal, greatest, number}

grows : (front : ℕ) (digits : List ℕ) → front ≤ decimal front digits
grows front [] = omega arith
grows front (digit ∷ digits) = let more = grows (10 * front + (digit - 48)) digits in omega arith

never : (a b c : Bool) → c ≡ false → (a && (b && c)) ≡ false
never true true c e = e
never true false c e = refl
never false b c e = refl

pub too_great : (word digits : List ℕ) (value : ℕ) → greatest < value → decimal 0 word ≡ decimal value digits → None ≡ number word
unfolding number
too_great word digits value great is =
    let more = grows value digits in
    let above : greatest < decimal 0 word = omega arith in
    let not_le : nat_le (decimal 0 word) greatest ≡ false = grind (arith, nat_tests) in
    rw (never (has_bytes word) (list_all is_ascii_digit word) (nat_le (decimal 0 word) greatest) not_le) refl
