-- What became of pointers, and rows of objects and pointers, in the words of the code.
use Rattle.std.specs.Prelude.{ℕ, nat_eq, Bool, true, false, not, ◌&&◌}
use Rattle.run_store.specs.declared.Flag.TheVariants as flag
use Rattle.sum_rows.specs.declared.row.Row.{Row}
use Rattle.sum_rows.specs.declared.row.State.{State}
use Rattle.sum_rows.specs.declared.row.State.TheVariants as state
use Rattle.sc_world.specs.Known as known
use Rattle.sc_world.specs.Shows as shows
use Rattle.sc_world.specs.Shows.{Over}
use Rattle.fn_facts.specs.Seen as facts
use Rattle.fn_walks.specs.declared.roots.Beside.TheVariants as beside
use Rattle.fn_walks.specs.declared.roots.From.{From}

-- Kinds of pointers at the function's end.

unfoldable pub result_kind : Over → State
result_kind o = shows.result_kind o

unfoldable pub kind_of_cell : Over → ℕ → State
kind_of_cell o at = shows.kind_of_cell o at (shows.cell_now o at)

unfoldable pub out_fate : Over → ℕ → State
out_fate o at = shows.out_fate o at

-- whether a run that comes to the function's end has set the pointer in a cell of an object that is not freed then
unfoldable pub is_set : Over → ℕ → Bool
is_set o at = shows.has o flag.Written at && not (shows.has o flag.Freed (shows.root_at o at))

abbrev pub is_same : State → Bool
is_same s = known.same_state s state.Same

-- from where walks tell the kind of the result, and of the pointer in a cell
abbrev pub result_from : From
result_from = record { result = false; beside = beside.Nothing }

abbrev pub cell_from : ℕ → From
cell_from at = record { result = true; beside = beside.Cell at }

-- Rows.

abbrev pub is_nil : State → Bool
is_nil s = known.same_state s state.Nil

-- whether a row whose end is one of the run is one of the run
unfoldable pub row_with : Row → (Over → Bool) → Over → Bool
row_with r of o = nat_eq r.given (facts.given o) && (is_nil r.before && (known.same_gives r.result (shows.result o) && of o))
