-- The functions so far fit: the others decide.
use Rattle.std.proofs.Common.{◌≡◌, drop}
use Rattle.call_graph.specs.Evidence.{fit_from, is_evidence}
use Rattle.call_graph.proofs.evidence.is_evidence.Given as goal

abbrev pub invariant-loop-function : goal.invariant-loop-function
invariant-loop-function l =
    is_evidence l.rows l.evidence ≡ fit_from l.rows l.evidence l.function (drop l.function l.rows)
