-- The verdicts of the functions passed.
use Rattle.std.proofs.Common.{◌≡◌, map, take}
use Rattle.std.specs.Arc.{arc_value}
use Rattle.session_core.specs.Stale.{rows_of}
use Rattle.session_core.proofs.callee_rows.rows_of.Given as goal

abbrev pub invariant-loop-function : goal.invariant-loop-function
invariant-loop-function l = map arc_value l.list.items ≡ rows_of (take l.function-index l.functions) (map arc_value l.verdicts)
