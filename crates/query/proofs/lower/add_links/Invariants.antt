use Rattle.std.proofs.Common.{◌≡◌, ◌≤◌, ◌+◌}
use Rattle.query.proofs.Lowering.{IsLinked}
use Rattle.query.proofs.lower.add_links.Given as goal

-- the clauses of the bits before this one are added
abbrev pub invariant-loop-place : goal.invariant-loop-place
invariant-loop-place g l = record {
  vars : g.S.Solver.vars l.fn.s ≤ g.S.Solver.vars l.s;
  top : g.S.Solver.vars l.s ≡ l.at + 1;
  from : l.fn.first ≤ l.at;
  linked : IsLinked (g.S.Solver.clauses l.fn.s) (g.S.Solver.clauses l.s) l.fn.first l.bits l.values l.place l.at;
}
