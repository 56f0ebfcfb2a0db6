use Rattle.std.proofs.Common.{◌≡◌, ◌-◌}
use Rattle.std.specs.List.{list_any, range_with_len}
use Rattle.sum_rows.specs.declared.row.State.TheVariants as state
use Rattle.sc_world.specs.Known.{row, stands}
use Rattle.sc_world.specs.World.{states}
use Rattle.run_world.specs.Seen.{env}
use Rattle.run_known.specs.Seen.{sought}
use Rattle.run_known.proofs.needs.from_any.Given as goal

abbrev pub invariant-loop-n : goal.invariant-loop-n
invariant-loop-n l =
    list_any (λ s. stands (row l.given (state.At s) l.gives (sought l.after)) l.rows) (range_with_len l.n (states (env l.here).source - l.n))
    ≡ list_any (λ s. stands (row l.fn.given (state.At s) l.fn.gives (sought l.fn.after)) l.fn.rows) (range_with_len 0 (states (env l.fn.here).source))
