-- The words that are numbers, and those that are literals.

use Rattle.std.specs.Prelude.{ℕ, ◌+◌, ◌-◌, ◌*◌, ◌==◌, ◌&&◌, nat_le, Bool, true, false, List, [], ◌∷◌, Option, None}
use Rattle.std.specs.Prelude.{Some, option_map, option_and_then}
use Rattle.std.specs.Prelude.{if◌then◌else◌}
use Rattle.std.specs.Char.{is_ascii_digit}
use Rattle.std.specs.List.{list_all}
use Rattle.sat_base.specs.declared.literal.Lit.{Lit}
use Rattle.drat_text.specs.Parts.{has_bytes}

-- the number of these digits behind digits of the number `front`
abbrev pub decimal : ℕ → List ℕ → ℕ
decimal front [] = front
decimal front (digit ∷ digits) = decimal (10 * front + (digit - 48)) digits

-- the greatest number of variables, and of clauses
abbrev pub greatest : ℕ
greatest = 2147483647

-- A number is one or more decimal digits, with a value of at most 2,147,483,647. Zeros may stand in front.
unfoldable pub number : List ℕ → Option ℕ
number word =
    if has_bytes word && (list_all is_ascii_digit word && nat_le (decimal 0 word) greatest) then Some (decimal 0 word) else None

-- a number from 1 to `vars`, as a variable: variables count from 0 inside, and from 1 in the text
abbrev pub variable_of : ℕ → ℕ → Option ℕ
variable_of vars n = if nat_le 1 n && nat_le n vars then Some (n - 1) else None

abbrev pub variable : ℕ → List ℕ → Option ℕ
variable vars word = option_and_then (variable_of vars) (number word)

abbrev pub with_sign : Bool → Option ℕ → Option Lit
with_sign neg variable = option_map (λ v. record { var = v; neg = neg }) variable

-- A literal is a number from 1 to `vars`, or `-` and such a number.
unfoldable pub literal : ℕ → List ℕ → Option Lit
literal vars [] = None
literal vars (b ∷ bs) = if b == 45 then with_sign true (variable vars bs) else with_sign false (variable vars (b ∷ bs))
