use Rattle.std.proofs.Common.{◌≡◌, ◌++◌, drop}
use Rattle.program_plan.specs.Marks.{set_from}
use Rattle.program_plan.proofs.rows.set_marks.Given as goal

abbrev pub invariant-loop-number : goal.invariant-loop-number
invariant-loop-number l = l.found ++ set_from l.number (drop l.number l.marks) ≡ set_from 0 l.fn.marks
