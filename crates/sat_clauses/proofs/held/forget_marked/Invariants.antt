use Rattle.std.proofs.Common.{List}
use Rattle.sat_base.specs.declared.literal.Lit.{Lit}
use Rattle.sat_clauses.specs.Learnt.{Thins}
use Rattle.sat_clauses.specs.Certified.{IsRecorded}
use Rattle.sat_clauses.proofs.held.forget_marked.Given as goal

abbrev pub invariant-loop-i : goal.invariant-loop-i
invariant-loop-i l = record {
  thins : Thins l.fn.learnt l.learnt;
  recorded : (given : List (List Lit)) → IsRecorded given l.fn.learnt l.fn.log → IsRecorded given l.learnt l.log;
}
