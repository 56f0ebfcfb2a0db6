-- The choice of so many bits that digits spell, as a report prints it. No two choices of one length are spelled alike.
use Rattle.std.specs.Prelude.{◌≡◌, ◌≢◌, ℕ, Bool, Option, List, length}
use Rattle.std.specs.Str.{bytes_eq}
use Rattle.sc_world.specs.Choices.{first_choice}
use Rattle.report_text.specs.Shown.{choice_text}

-- the choice has so many bits, and is spelled so
pub record IsSpelled (bits : ℕ) (digits : List ℕ) (choice : List Bool) : Type 0 where
  pub long : length choice ≡ bits
  pub spelled : choice_text choice ≡ digits

-- no choice of so many bits is spelled so
abbrev pub NoneIsSpelled : (bits : ℕ) → (digits : List ℕ) → Type 0
NoneIsSpelled bits digits = (choice : List Bool) → length choice ≡ bits → choice_text choice ≢ digits

abbrev pub is_spelled : (digits : List ℕ) → List Bool → Bool
is_spelled digits choice = bytes_eq (choice_text choice) digits

-- the choice of so many bits that is spelled so, if there is one
unfoldable pub choice_spelled : (bits : ℕ) → (digits : List ℕ) → Option (List Bool)
choice_spelled bits digits = first_choice bits (is_spelled digits)
