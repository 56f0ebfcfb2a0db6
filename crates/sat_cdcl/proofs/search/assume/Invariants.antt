use Rattle.std.proofs.Common.{◌≡◌, ℕ, Bool, true, take}
use Rattle.sat_base.specs.Logic.{each_true}
use Rattle.sat_trail.specs.Steps.{AllTrue}
use Rattle.sat_cdcl.proofs.search.assume.Given as goal

abbrev pub invariant-loop-lit : goal.invariant-loop-lit
invariant-loop-lit l = record {
  vars : l.trail.vars ≡ l.fn.trail.vars;
  holds : (f : ℕ → Bool) → each_true f (take l.lit-index l.assumed) ≡ true → AllTrue f l.trail.steps;
}
