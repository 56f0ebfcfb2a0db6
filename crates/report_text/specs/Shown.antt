-- A run that is shown: its choice and its events.
use Rattle.std.specs.Prelude.{ℕ, ◌+◌, ◌*◌, ◌/◌, nat_lt, Bool, true, false, Option, Some, None, List, [], ◌∷◌, ◌++◌, length, map, slice_index_or, codes, decimal, if◌then◌else◌}
use Rattle.std.specs.List.{flat_map, range_with_len}
use Rattle.std.specs.Fmt.{signed_decimal}
use Rattle.sc_base.specs.declared.pos.NameId.{NameId}
use Rattle.sum_rows.specs.declared.report.Event.{Event}
use Rattle.sum_rows.specs.declared.report.What.{What}
use Rattle.sum_rows.specs.declared.report.What.TheVariants as what
use Rattle.sum_rows.specs.declared.report.Shown.{Shown}
use Rattle.sc_typed.specs.declared.program.Program.{Program}
use Rattle.report_text.specs.Names.{name_text}

-- A choice in hexadecimal digits: four bits make a digit, the first counting most; the last digit is filled with
-- `false`.
abbrev pub bit_number : List Bool → ℕ → ℕ
bit_number choice at = if slice_index_or choice at false then 1 else 0

abbrev pub four_bits : List Bool → (digit : ℕ) → ℕ
four_bits choice k =
    8 * bit_number choice (4 * k) + 4 * bit_number choice (4 * k + 1) + 2 * bit_number choice (4 * k + 2) + bit_number choice (4 * k + 3)

abbrev pub hex_digit : ℕ → ℕ
hex_digit n = if nat_lt n 10 then 48 + n else 87 + n

abbrev pub hex_digits : List Bool → (count : ℕ) → List ℕ
hex_digits choice count = map (λ k. hex_digit (four_bits choice k)) (range_with_len 0 count)

-- `none` where there is no bit
abbrev pub choice_text : List Bool → List ℕ
choice_text [] = codes "none"
choice_text (b ∷ bs) = hex_digits (b ∷ bs) ((length (b ∷ bs) + 3) / 4)

-- Events.
abbrev pub digit_of : Bool → List ℕ
digit_of true = codes "1"
digit_of false = codes "0"

abbrev pub call_text : Program → Option NameId → List ℕ
call_text p None = codes "*"
call_text p (Some n) = name_text p n

-- what happens; an error at the location with that text
abbrev pub what_text : Program → (location : List ℕ) → What → List ℕ
what_text p location (what.Call n) = codes "call " ++ call_text p n
what_text p location (what.If b) = codes "if " ++ digit_of b
what_text p location (what.Loop b) = codes "loop " ++ digit_of b
what_text p location (what.Switch n) = codes "switch " ++ signed_decimal n
what_text p location (what.Goto n) = codes "goto " ++ name_text p n
what_text p location what.Return = codes "return"
what_text p location what.End = codes "end"
what_text p location (what.Bad at) = codes "error " ++ location

-- an event: its line and column, and what happens
unfoldable pub event_line : Program → (indent location : List ℕ) → Event → List ℕ
event_line p indent location e =
    indent ++ (decimal e.line ++ (codes ":" ++ (decimal e.col ++ (codes " " ++ (what_text p location e.what ++ codes "\n")))))

abbrev pub trace_text : Program → (indent location : List ℕ) → List Event → List ℕ
trace_text p indent location events = flat_map (event_line p indent location) events

-- the choice, and then the events, each on a line with four spaces before it
unfoldable pub shown_text : Program → Shown → List ℕ
shown_text p s = codes "    choice " ++ (choice_text s.choice ++ (codes "\n" ++ trace_text p (codes "    ") s.text s.trace))
