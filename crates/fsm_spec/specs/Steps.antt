-- What the steps of the reader give, each in the words of the definitions that `spelled` is made of.
use Rattle.std.specs.Prelude.{◌≡◌, ⊤, ℕ, suc, ◌&&◌, nat_le, nat_lt, List, [], length, take, Option, Some, None, if◌then◌else◌, Result, Ok, Err}
use Rattle.fsm_spec.specs.declared.fault.MachineAnswer.{MachineAnswer}
use Rattle.fsm_spec.specs.declared.fault.MachineAnswer.TheVariants as answer
use Rattle.fsm_spec.specs.declared.table.Operation.{Operation}
use Rattle.fsm_spec.specs.Words.{words, is_among}
use Rattle.fsm_spec.specs.Reading.{operation_at, operations_in, functions, are_operations, first_fault}

-- the words of what is left of a line; none where nothing is left
abbrev pub words_left : Option (List ℕ) → List (List ℕ)
words_left None = []
words_left (Some rest) = words rest

-- a step answers what was to be read, or the number of a line; memory may be refused at any time
abbrev pub Gives : {X : Type 0} → Result X MachineAnswer → Result X ℕ → Type 0
Gives (Ok x) r = r ≡ Ok x
Gives (Err (answer.Line number)) r = r ≡ Err number
Gives (Err answer.OutOfMemory) r = ⊤

abbrev pub or_number : {X : Type 0} → ℕ → Option X → Result X ℕ
or_number number None = Err number
or_number number (Some x) = Ok x

-- what the line with this number has, by its form, or else the number
abbrev pub at_line : {X : Type 0} → (List (List ℕ) → Option X) → ℕ → Option (List ℕ) → Result X ℕ
at_line form number None = Err number
at_line form number (Some line) = or_number number (form (words line))

-- an operation whose function no other has
abbrev pub new_in : List Operation → Option Operation → Option Operation
new_in before None = None
new_in before (Some o) = if is_among o.function (functions before) then None else Some o

-- the operation of a line behind the lines of some operations
unfoldable pub next_in : List (List ℕ) → List Operation → List ℕ → Option Operation
next_in states before line = if nat_lt (length before) 64 then new_in before (operation_at states line) else None

-- the operations of the lines behind line 2, or the number of the line that breaks the form
unfoldable pub operations_answer : List (List ℕ) → List (List ℕ) → Result (List Operation) ℕ
operations_answer states ls =
    if nat_le 1 (length ls) && are_operations states ls
    then Ok (operations_in states ls)
    else Err (suc (suc (first_fault (λ n. are_operations states (take n ls)) 1 (length ls))))
