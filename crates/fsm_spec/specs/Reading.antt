-- Which bytes are a machine file, and which machine they spell; or the number of the first line that
-- breaks the form.
--
-- Line 1 is the name, line 2 the states, each other line an operation. There are 1 to 64 operations, and no
-- function stands in two of them. A line breaks the form where the lines up to it do not begin a machine
-- file, and those before it do. Where each line has its form and lines are missing, the number is one more
-- than the number of lines.
use Rattle.std.specs.Prelude.{◌≡◌, ⊤, ℕ, zero, suc, Bool, true, false, ◌&&◌, nat_le, List, [], ◌∷◌, length, take, map, Option, Some, None, is_some, unwrap_or, if◌then◌else◌, Result, Ok, Err}
use Rattle.std.specs.List.{list_all, filter_map}
use Rattle.fsm_spec.specs.declared.fault.MachineAnswer.{MachineAnswer}
use Rattle.fsm_spec.specs.declared.fault.MachineAnswer.TheVariants as answer
use Rattle.fsm_spec.specs.declared.table.MachineSpec.{MachineSpec}
use Rattle.fsm_spec.specs.declared.table.Operation.{Operation}
use Rattle.fsm_spec.specs.Words.{words, lines, are_different}
use Rattle.fsm_spec.specs.Forms.{name_in, states_in, operation_in}

-- the operation that a line has
abbrev pub operation_at : List (List ℕ) → List ℕ → Option Operation
operation_at states line = operation_in states (words line)

-- the operations of the lines that have one
abbrev pub operations_in : List (List ℕ) → List (List ℕ) → List Operation
operations_in states ls = filter_map (operation_at states) ls

abbrev pub functions : List Operation → List (List ℕ)
functions operations = map (λ o. o.function) operations

-- each line has the form of an operation, there are 64 at most, and no function stands twice
unfoldable pub are_operations : List (List ℕ) → List (List ℕ) → Bool
are_operations states ls =
    nat_le (length ls) 64 && (list_all (λ line. is_some (operation_at states line)) ls && are_different (functions (operations_in states ls)))

abbrev pub begins_with : Option (List (List ℕ)) → List (List ℕ) → Bool
begins_with None ls = false
begins_with (Some states) ls = are_operations states ls

-- whether lines begin a machine file
abbrev pub begins : List (List ℕ) → Bool
begins [] = true
begins (first ∷ []) = is_some (name_in (words first))
begins (first ∷ second ∷ ls) = is_some (name_in (words first)) && begins_with (states_in (words second)) ls

-- the first number from n on, among some, that has no pass; the number behind them where each has one
abbrev pub first_fault : (ℕ → Bool) → ℕ → ℕ → ℕ
first_fault passes n zero = n
first_fault passes n (suc more) = if passes n then first_fault passes (suc n) more else n

-- the number of the first line that breaks the form, or one more than the number of lines
abbrev pub broken_line : List (List ℕ) → ℕ
broken_line ls = first_fault (λ n. begins (take n ls)) 1 (length ls)

-- the machine of the lines of a machine file
abbrev pub machine_of : List (List ℕ) → MachineSpec
machine_of (first ∷ second ∷ ls) =
    let states = unwrap_or (states_in (words second)) []
    in record { name = unwrap_or (name_in (words first)) []; states = states; operations = operations_in states ls }
machine_of _ = record { name = []; states = []; operations = [] }

pub data Spelled : Type 0 where
  Machine : MachineSpec → Spelled
  Breaks : ℕ → Spelled

abbrev pub spelled_by : List (List ℕ) → Spelled
spelled_by ls = if nat_le 3 (length ls) && begins ls then Machine (machine_of ls) else Breaks (broken_line ls)

-- what the bytes of a file spell
unfoldable pub spelled : List ℕ → Spelled
spelled bytes = spelled_by (lines bytes)

-- what a reader answers: exactly what is spelled, or that memory was refused
abbrev pub Answers : Result MachineSpec MachineAnswer → Spelled → Type 0
Answers (Ok machine) s = s ≡ Machine machine
Answers (Err (answer.Line number)) s = s ≡ Breaks number
Answers (Err answer.OutOfMemory) s = ⊤
