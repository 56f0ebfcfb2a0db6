use Rattle.std.proofs.Common.{◌≡◌, ℕ, false, length, slice_index_or}
use Rattle.flow_turns.proofs.ends.no_flags.Given as goal

abbrev pub invariant-loop : goal.invariant-loop
invariant-loop l = record {
  len : length l.flags.items ≡ l.counter;
  none : (m : ℕ) → slice_index_or l.flags.items m false ≡ false;
}
