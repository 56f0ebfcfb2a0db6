-- What gates tell of: the run that is over, in the words of the code.
use Rattle.std.specs.Prelude.{ℕ, zero, suc, ◌+◌, nat_eq, Bool, true, false, ◌&&◌, ◌||◌, Option, Some, List, length, bytes_eq, Result, Ok, Err}
use Rattle.std.specs.List.{list_all}
use Rattle.run_store.specs.Concrete.{Cell}
use Rattle.sum_rows.specs.declared.row.Gives.TheVariants as gives
use Rattle.sum_rows.specs.declared.row.Row.{Row}
use Rattle.sum_rows.specs.declared.row.State.TheVariants as state
use Rattle.sc_world.specs.declared.run.Origin.{Origin}
use Rattle.sc_world.specs.declared.run.Origin.TheVariants as origin
use Rattle.sc_world.specs.Tree.{Ty, is_integer, is_pointer}
use Rattle.sc_world.specs.Layout.{location}
use Rattle.sc_world.specs.Known as known
use Rattle.sc_world.specs.Paths as paths
use Rattle.sc_world.specs.World.{Ended, Error, World, kind_of_type, chosen_cell, entry_cell, entry_state_at, is_true, number_of}
use Rattle.sc_world.specs.Shows as shows
use Rattle.sc_world.specs.Shows.{Over}
use Rattle.gate_runs.specs.Standing.{is_bad}
use Rattle.run_world.specs.Seen.{env}
use Rattle.fn_facts.specs.declared.around.Around.{Around}
use Rattle.fn_facts.specs.declared.entry.Above.{Above}
use Rattle.fn_facts.specs.declared.entry.Above.TheVariants as above_by

-- a run of the function that is over
abbrev pub over : Around → List Bool → Result Cell Ended → World → Over
over a bits r w =
    record { source = (env a.here).source; layout = (env a.here).layout; choice = bits; ended = r; world = w }

-- whether the run ends by an error at a location, which the caller knows or not
abbrev pub fails_at : Result Cell Ended → ℕ → Bool
fails_at (Ok c) at = false
fails_at (Err e) at = is_bad at (Some e)

-- whether it ends by an error that the caller knows, at one of the first k locations; and at any
unfoldable pub errs_below : Result Cell Ended → (k : ℕ) → Bool
errs_below r zero = false
errs_below r (suc k) = errs_below r k || shows.errs_at r k

abbrev pub errs_known : Result Cell Ended → Bool
errs_known (Err (Error n)) = true
errs_known _ = false

-- Entry.

unfoldable pub was_true : Over → ℕ → Bool
was_true o at = is_true (entry_cell o.source o.choice (location o.layout at))

-- whether the bits from a place on spell neither 0 nor null, for a cell of that type
unfoldable pub is_chosen : Over → Option Ty → (bit : ℕ) → (own : Option ℕ) → Bool
is_chosen o t bit own = is_true (chosen_cell o.choice (kind_of_type o.source t) bit own)

abbrev pub has_bit : Ty → Bool
has_bit t = is_integer t || is_pointer t

-- the entry bits as a number, where the bits of so many parameters are left to read, from the parameter with number k on
unfoldable pub bits_from : Over → (number left k : ℕ) → List Ty → ℕ
bits_from o n left k ts = shows.bits_number o n (shows.entry_params_from left k ts)

unfoldable pub given : Over → ℕ
given o = shows.given o

unfoldable pub is_given : Over → ℕ → Bool
is_given o n = is_true (shows.param_cell o n)

unfoldable pub state_before : Over → ℕ → ℕ
state_before o at = entry_state_at o.source o.choice (location o.layout at).state

unfoldable pub state_now : Over → ℕ → ℕ
state_now o at = number_of (shows.cell_now o (length o.layout.locations + at))

-- whether the cells on a path were not null, over so many locations at most
unfoldable pub met_by : Over → (most at : ℕ) → Bool
met_by o most at = list_all (was_true o) (paths.cells_on most o.layout at)

-- from where a location is reached
abbrev pub reached_from : Origin → Above
reached_from (origin.Target k) = above_by.Cell k
reached_from (origin.Part up s) = above_by.Whole up
reached_from _ = above_by.Nothing

abbrev pub met_from : Over → (most : ℕ) → Above → Bool
met_from o most (above_by.Cell k) = was_true o k && met_by o most k
met_from o most (above_by.Whole up) = met_by o most up
met_from o most above_by.Nothing = true

unfoldable pub is_met : Over → ℕ → Bool
is_met o at = shows.is_met o at

-- Rows.

-- whether a row of a location begins as the run did
unfoldable pub begins : Over → (at : ℕ) → Row → Bool
begins o at r = is_met o at && (nat_eq r.given (given o) && known.same_state r.before (state.At (state_before o at)))

-- whether it ends as the run did, where that came to the function's end
unfoldable pub ends_so : Over → (at : ℕ) → Row → Bool
ends_so o at r = known.same_gives r.result (shows.result o) && known.same_state r.after (state.At (state_now o at))

-- whether it is the row of an error
unfoldable pub is_bad_row : Row → Bool
is_bad_row r = known.same_gives r.result gives.Nothing && known.same_state r.after state.Bad

-- whether the run ends by an error that the caller does not know at one of the first k locations, which has that text
unfoldable pub ends_below : paths.Texts → List ℕ → Result Cell Ended → (k : ℕ) → Bool
ends_below x t r zero = false
ends_below x t r (suc k) = ends_below x t r k || (bytes_eq (paths.text_at x k) t && shows.is_it k (shows.ends_inner r))
