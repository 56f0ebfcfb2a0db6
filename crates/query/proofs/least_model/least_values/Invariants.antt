use Rattle.std.proofs.Common.{◌≡◌, take}
use Rattle.sat_base.specs.Logic.{LitsBelow}
use Rattle.query.specs.Values.{IsSeen}
use Rattle.query.proofs.Narrowing.{Narrowed}
use Rattle.query.proofs.least_model.least_values.Given as goal

-- the bits before this one are fixed as low as models allow, and `last` has the values of the bits in such a model
abbrev pub invariant-loop-place : goal.invariant-loop-place
invariant-loop-place g l = record {
  vars : g.S.Solver.vars l.s ≡ g.S.Solver.vars l.fn.s;
  clauses : g.S.Solver.clauses l.s ≡ g.S.Solver.clauses l.fn.s;
  below : LitsBelow (g.S.Solver.vars l.fn.s) l.fixed.items;
  narrowed : Narrowed (g.S.Solver.clauses l.fn.s) (take l.place l.bits) l.fn.goals l.values.items l.fixed.items;
  last : IsSeen (g.S.Solver.clauses l.s) l.fixed.items l.bits l.last.items;
}
