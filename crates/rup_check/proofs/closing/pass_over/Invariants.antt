use Rattle.rup_check.specs.Stored.{present}
use Rattle.rup_check.specs.Propagating.{Extends}
use Rattle.rup_check.proofs.PropagatingLemmas.{IsSoFar}
use Rattle.rup_check.proofs.closing.pass_over.Given as goal

abbrev pub invariant-loop-id : goal.invariant-loop-id
invariant-loop-id l = record {
  extends : Extends (present l.store) l.fn.marks l.marks;
  so_far : IsSoFar l.store l.fn.marks l.marks l.found l.id;
}
