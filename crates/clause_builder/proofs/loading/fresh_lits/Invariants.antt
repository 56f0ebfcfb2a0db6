use Rattle.std.proofs.Common.{◌≡◌, ◌+◌, ◌<◌}
use Rattle.sat_base.specs.Logic.{ClausesBelow}
use Rattle.clause_builder.specs.Gates.{gate_lits}
use Rattle.clause_builder.proofs.loading.fresh_lits.Given as goal

abbrev pub invariant-loop-gate : goal.invariant-loop-gate
invariant-loop-gate g l =
    (l.lits.items ≡ gate_lits (g.S.Solver.vars l.fn.s) l._gate)
    × (g.S.Solver.vars l.s ≡ g.S.Solver.vars l.fn.s + l._gate)
    × (g.S.Solver.clauses l.s ≡ g.S.Solver.clauses l.fn.s)
    × (0 < l._gate → ClausesBelow (g.S.Solver.vars l.fn.s) (g.S.Solver.clauses l.fn.s))
