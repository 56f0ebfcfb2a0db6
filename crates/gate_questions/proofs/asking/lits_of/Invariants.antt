use Rattle.std.proofs.Common.{take}
use Rattle.clause_builder.specs.Cones.{AreLoaded, Keeps}
use Rattle.gate_questions.specs.Ready.{AreLits}
use Rattle.gate_questions.proofs.asking.lits_of.Given as goal

-- the literals of the gates before this one
abbrev pub invariant-loop-gate : goal.invariant-loop-gate
invariant-loop-gate g l = record {
  loaded : AreLoaded l.net l.loader (g.S.Solver.vars l.s) (g.S.Solver.clauses l.s);
  lits : AreLits l.loader (take l.gate-index l.gates) l.lits.items;
  kept : Keeps l.fn.loader l.loader;
}
