use Rattle.std.proofs.Common.{◌≡◌, drop}
use Rattle.sc_gather.specs.Seen.{source_of, arguments_of}
use Rattle.program_plan.specs.Marks.{mark_exps}
use Rattle.program_plan.proofs.expressions.+expression.Given as goal

abbrev pub invariant-arguments-loop-e : goal.invariant-arguments-loop-e
invariant-arguments-loop-e l =
    mark_exps (source_of l.here) (arguments_of (source_of l.here).structs (drop l.e-index l.args)) l.marks
    ≡ mark_exps (source_of l.fn.here) (arguments_of (source_of l.fn.here).structs l.fn.args) l.fn.marks
