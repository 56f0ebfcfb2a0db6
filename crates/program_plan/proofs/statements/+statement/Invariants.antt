use Rattle.std.proofs.Common.{◌≡◌, drop}
use Rattle.sc_gather.specs.Seen.{source_of, statements_of}
use Rattle.program_plan.specs.Marks.{mark_stms}
use Rattle.program_plan.proofs.statements.+statement.Given as goal

abbrev pub invariant-statements-loop-x : goal.invariant-statements-loop-x
invariant-statements-loop-x l =
    mark_stms (source_of l.here) (statements_of (source_of l.here).structs (drop l.x-index l.xs)) l.marks
    ≡ mark_stms (source_of l.fn.here) (statements_of (source_of l.fn.here).structs l.fn.xs) l.fn.marks
