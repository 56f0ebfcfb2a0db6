use Rattle.std.proofs.Common.{◌≡◌, ℕ, length, slice_index_or}
use Rattle.gl_store.specs.declared.values.Val.TheVariants as val
use Rattle.flow_turns.specs.Kept.{vals_top}
use Rattle.flow_turns.proofs.ends.no_vals.Given as goal

abbrev pub invariant-loop : goal.invariant-loop
invariant-loop l = record {
  len : length l.vals.items ≡ l.counter;
  none : (m : ℕ) → slice_index_or l.vals.items m val.Unit ≡ val.Unit;
  top : vals_top l.vals.items ≡ 0;
}
