-- What a check says of the files that were read: the text of the whole check, and whether it has a report; or the first
-- reason why there is none: a function has two bodies, there are too many functions, there are too many edges from
-- callers to callees.
use Rattle.std.specs.Prelude.{ℕ, Bool, nat_le, nat_lt, List, [], if◌then◌else◌, slice_index_or, Option}
use Rattle.std.specs.List.{list_any}
use Rattle.fsm_spec.specs.declared.table.MachineSpec.{MachineSpec}
use Rattle.fsm_spec.specs.Table.{IsWhole}
use Rattle.sc_base.specs.declared.skip.LimitKind.{LimitKind}
use Rattle.sc_base.specs.declared.skip.LimitKind.TheVariants as limit
use Rattle.sum_rows.specs.declared.report.Verdict.{Verdict}
use Rattle.sc_typed.specs.declared.program.Program.{Program}
use Rattle.sc_world.specs.Programs.{machine_or_locks}
use Rattle.sc_check.specs.Typed.{Sources, Answer, Typed, Duplicate, TooMany, typed}
use Rattle.program_plan.specs.Planned.{edges_of, most_edges}
use Rattle.program_verdicts.specs.Verdicts.{verdicts}
use Rattle.report_text.specs.Checks.{text, reports_in}

pub data Said : Type 0 where
  -- the text of the whole check, and whether some function has a report
  Whole : (bytes : List ℕ) → (reported : Bool) → Said
  -- a function of this name has a second body
  Twice : (name : List ℕ) → Said
  -- a limit, and the count that passes it
  Beyond : LimitKind → ℕ → Said

abbrev pub has_report : Verdict → Bool
has_report v = nat_lt 0 (reports_in v)

abbrev pub said_with : Program → List Verdict → Said
said_with p vs = Whole (text p vs) (list_any has_report vs)

-- what is said of a typed program
abbrev pub said_of_program : Program → (depth reach : ℕ) → Said
said_of_program p depth reach =
    if nat_le (edges_of p) most_edges then said_with p (verdicts p depth reach) else Beyond limit.Edges (edges_of p)

abbrev pub said_of : Sources → (depth reach : ℕ) → Answer → Said
said_of s depth reach (Typed p) = said_of_program p depth reach
said_of s depth reach (Duplicate name) = Twice (slice_index_or s.names name [])
said_of s depth reach (TooMany count) = Beyond limit.Functions count

-- what is said of the trees of all files
unfoldable pub said : Sources → (depth reach : ℕ) → Said
said s depth reach = said_of s depth reach (typed s)

-- the machine of states is one that a file spells, or that of locks
abbrev pub HasWholeMachine : Option MachineSpec → Type 0
HasWholeMachine machine = IsWhole (machine_or_locks machine)
