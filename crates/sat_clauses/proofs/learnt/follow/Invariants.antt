use Rattle.std.proofs.Common.{◌≡◌, ◌<◌, ◌≤◌, ℕ, length, slice_get}
use Rattle.sat_clauses.specs.Learnt.{moved_at}
use Rattle.sat_clauses.proofs.learnt.follow.Given as goal

abbrev pub invariant-loop-i : goal.invariant-loop-i
invariant-loop-i l = record {
  len : length l.table.items ≡ length l.fn.table.items;
  done : (j : ℕ) → j < l.i → slice_get l.table.items j ≡ moved_at l.moves.places (slice_get l.fn.table.items j);
  rest : (j : ℕ) → l.i ≤ j → slice_get l.table.items j ≡ slice_get l.fn.table.items j;
}
