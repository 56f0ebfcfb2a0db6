use Rattle.std.proofs.Common.{◌≡◌, ℕ, ◌<◌, ◌≤◌, true, length}
use Rattle.net_goals.specs.Cones.{is_marked, IsClosedAt}
use Rattle.net_goals.proofs.cone.close_all.Given as goal

-- the gates from this one on are closed
abbrev pub invariant-loop-at : goal.invariant-loop-at
invariant-loop-at l = record {
  room : l.at ≤ length l.fn.marks;
  width : length l.marks ≡ length l.fn.marks;
  kept : (g : ℕ) → is_marked l.fn.marks g ≡ true → is_marked l.marks g ≡ true;
  closed : (g : ℕ) → l.at ≤ g → g < length l.fn.marks → IsClosedAt l.net l.marks g;
}

abbrev pub decreases-loop-at : goal.decreases-loop-at
decreases-loop-at l = l.at
