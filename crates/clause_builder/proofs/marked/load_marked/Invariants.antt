use Rattle.std.proofs.Common.{◌≡◌, ℕ, ◌<◌, ◌≤◌, true, length}
use Rattle.clause_builder.specs.Cones.{is_marked, AreLoaded, IsLoadedAt, Keeps}
use Rattle.clause_builder.proofs.marked.load_marked.Given as goal

-- the marked gates before this one are loaded
abbrev pub invariant-loop-at : goal.invariant-loop-at
invariant-loop-at g l = record {
  vars : g.S.Solver.vars l.fn.s ≤ g.S.Solver.vars l.s;
  wide : length l.lits.items ≡ length l.fn.lits.items;
  loaded : AreLoaded l.net l.lits.items (g.S.Solver.vars l.s) (g.S.Solver.clauses l.s);
  kept : Keeps l.fn.lits.items l.lits.items;
  done : (a : ℕ) → a < l.at → is_marked l.marks a ≡ true → IsLoadedAt l.lits.items a;
}
