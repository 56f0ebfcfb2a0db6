use Rattle.std.proofs.Common.{◌≡◌, ℕ, ◌<◌, Bool, length}
use Rattle.sat_base.specs.Logic.{at}
use Rattle.sat_trail.specs.Steps.{AllTrue}
use Rattle.sat_trail.proofs.decisions.collect.Given as goal

abbrev pub invariant-loop-var : goal.invariant-loop-var
invariant-loop-var l = record {
  same : l.trail ≡ l.fn.trail;
  size : length l.values.items ≡ l.var;
  told : (f : ℕ → Bool) → AllTrue f l.fn.trail.steps → (x : ℕ) → x < l.var → f x ≡ at l.values.items x;
}
