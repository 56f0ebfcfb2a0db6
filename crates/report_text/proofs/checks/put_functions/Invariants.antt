-- With the functions that are left, and their verdicts, the text is whole.
use Rattle.std.proofs.Common.{◌≡◌, ◌++◌, map, drop}
use Rattle.std.specs.Arc.{arc_value}
use Rattle.report_text.specs.Checks.{functions_text}
use Rattle.report_text.proofs.checks.put_functions.Given as goal

abbrev pub invariant-loop-function : goal.invariant-loop-function
invariant-loop-function l =
    l.out.items ++ functions_text l.program (drop l.function-index l.functions) (map arc_value l.rest)
    ≡ l.fn.out.items ++ functions_text l.program l.functions (map arc_value l.verdicts)
