use Rattle.std.proofs.Common.{◌≡◌, ℕ, ◌≤◌}
use Rattle.std.specs.List.{All}
use Rattle.clause_builder.specs.Adding.{Adds, AddsFresh}
use Rattle.clause_builder.specs.Gates.{gate_value, gates_hold}
use Rattle.clause_builder.proofs.loading.add_gates.Given as goal

abbrev pub invariant-loop-at : goal.invariant-loop-at
invariant-loop-at g l =
    (g.S.Solver.vars l.s ≡ g.S.Solver.vars l.fn.s)
    × Adds (g.S.Solver.clauses l.fn.s) (g.S.Solver.clauses l.s) (λ f. gates_hold (gate_value f l.fn.lits) l.fn.net l.at)
    × ((base : ℕ) → All (λ q. base ≤ q.var) l.fn.lits → AddsFresh base (g.S.Solver.clauses l.fn.s) (g.S.Solver.clauses l.s))
