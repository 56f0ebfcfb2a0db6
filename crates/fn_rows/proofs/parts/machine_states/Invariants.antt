use Rattle.std.proofs.Common.{◌≡◌, map, take}
use Rattle.sum_rows.specs.declared.row.State.TheVariants as state
use Rattle.fn_rows.proofs.parts.machine_states.Given as goal

abbrev pub invariant-loop-n : goal.invariant-loop-n
invariant-loop-n l = l.states.items ≡ map (λ n. state.At n) (take l.n-index l.n-items)
