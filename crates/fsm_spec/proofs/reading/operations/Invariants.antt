-- The lines so far have the operations so far, and the lines that are left follow them.
use Rattle.std.proofs.Common.{length}
use Rattle.fsm_spec.proofs.ReadingProofs.{Reads}
use Rattle.fsm_spec.proofs.reading.operations.Given as goal

abbrev pub invariant-loop-line : goal.invariant-loop-line
invariant-loop-line l = Reads l.states l.initial.lines l.lines l.operations

abbrev pub decreases-loop-line : goal.decreases-loop-line
decreases-loop-line l = length l.lines
