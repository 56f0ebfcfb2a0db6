-- What contracts see of a run that is over: the run of the definitions. And the definitions in the words of the code,
-- which asks all that holds objects by one function.
use Rattle.std.specs.Prelude.{ℕ, ◌+◌, ◌-◌, ◌^◌, ◌<◌, nat_eq, Bool, true, false, not, ◌&&◌, ◌||◌, Option, Some, None, List, Result, Ok, Err, map, length, if◌then◌else◌}
use Rattle.std.specs.List.{list_any, list_all}
use Rattle.sc_base.specs.declared.pos.Pos.{Pos}
use Rattle.run_store.specs.Concrete.{Cell}
use Rattle.run_store.specs.declared.Flag.TheVariants as flag
use Rattle.sum_rows.specs.declared.row.Row.{Row}
use Rattle.sum_rows.specs.declared.row.State.{State}
use Rattle.sum_rows.specs.declared.row.State.TheVariants as state
use Rattle.sum_rows.specs.declared.row.Gives.TheVariants as gives
use Rattle.sc_world.specs.declared.run.Origin.{Origin}
use Rattle.sc_world.specs.declared.run.Origin.TheVariants as origin
use Rattle.sc_world.specs.Tree.{Ty, is_integer, is_pointer}
use Rattle.sc_world.specs.Layout.{location}
use Rattle.sc_world.specs.Layout as layouts
use Rattle.sc_world.specs.Known as known
use Rattle.sc_world.specs.Paths as paths
use Rattle.sc_world.specs.World as worlds
use Rattle.sc_world.specs.Shows as shows
use Rattle.run_world.specs.declared.value.Value.{Value}
use Rattle.run_world.specs.declared.world.Ended.{Ended}
use Rattle.run_world.specs.Seen.{cell, how_ended, world, env}
use Rattle.run_answers.specs.declared.over.Over.{Over}
use Rattle.run_answers.specs.declared.holders.Beside.{Beside}
use Rattle.run_answers.specs.declared.holders.Beside.TheVariants as beside

-- what a run gave, or how it ended before
abbrev pub ended : Result Value Ended → Result Cell worlds.Ended
ended (Ok v) = Ok (cell v)
ended (Err e) = Err (how_ended e)

unfoldable pub over : Over → shows.Over
over o =
    record {
      source = (env o.here).source;
      layout = (env o.here).layout;
      choice = (env o.here).choice;
      ended = ended o.ended;
      world = world o.world.now;
    }

-- there are so few locations that each has a number of 32 bits
abbrev pub HasFew : Over → Type 0
HasFew o = length o.here.places.now.locations.items < 2 ^ 32

-- Entry.

unfoldable pub was_true : shows.Over → ℕ → Bool
was_true o at = worlds.is_true (worlds.entry_cell o.source o.choice (location o.layout at))

-- whether the bits from a place on spell neither 0 nor null, for a cell of that type
unfoldable pub is_chosen : shows.Over → Option Ty → (bit : ℕ) → (own : Option ℕ) → Bool
is_chosen o t bit own = worlds.is_true (worlds.chosen_cell o.choice (worlds.kind_of_type o.source t) bit own)

abbrev pub has_bit : Ty → Bool
has_bit t = is_integer t || is_pointer t

-- the entry bits as a number, where the bits of so many parameters are left to read, from the parameter with number k on
unfoldable pub bits_from : shows.Over → (number left k : ℕ) → List Ty → ℕ
bits_from o n left k ts = shows.bits_number o n (shows.entry_params_from left k ts)

-- the numbers of some bits, where so many of three are left to read
unfoldable pub size_of : (left : ℕ) → ℕ
size_of left = 2 ^ (3 - left)

unfoldable pub given : shows.Over → ℕ
given o = shows.given o

unfoldable pub is_given : shows.Over → ℕ → Bool
is_given o n = worlds.is_true (shows.param_cell o n)

unfoldable pub param_object : shows.Over → ℕ → ℕ
param_object o n = shows.param_object o n

unfoldable pub state_before : shows.Over → ℕ → ℕ
state_before o at = worlds.entry_state_at o.source o.choice (location o.layout at).state

unfoldable pub state_now : shows.Over → ℕ → ℕ
state_now o at = worlds.number_of (shows.cell_now o (length o.layout.locations + at))

-- whether the cells on a path were not null, over so many locations at most
unfoldable pub met_by : shows.Over → (most at : ℕ) → Bool
met_by o most at = list_all (was_true o) (paths.cells_on most o.layout at)

abbrev pub met_from : shows.Over → (most : ℕ) → Origin → Bool
met_from o most (origin.Target k) = was_true o k && met_by o most k
met_from o most (origin.Part up s) = met_by o most up
met_from o most _ = true

unfoldable pub is_met : shows.Over → ℕ → Bool
is_met o at = shows.is_met o at

-- Holders.

-- whether a holder counts
abbrev pub counts : shows.Over → Beside → ℕ → Bool
counts o beside.Nothing = λ k. true
counts o (beside.Object n) = λ k. not (nat_eq (shows.root_at o k) n)
counts o (beside.Cell at) = λ k. not (nat_eq k at)

-- the object that a cell holds for others
unfoldable pub held_at : shows.Over → Beside → ℕ → Option ℕ
held_at o b k = if shows.is_holder o k && counts o b k then shows.object_of o (shows.cell_now o k) else None

unfoldable pub held_among : shows.Over → Beside → List ℕ → List ℕ
held_among o b ks = shows.objects_held o (counts o b) ks

unfoldable pub held : shows.Over → Option ℕ → Beside → List ℕ
held o first b = shows.with_object first (shows.objects_held o (counts o b) (shows.numbers o))

-- Walks.

-- whether one of some objects, which is not freed, leads to another one by the pointer cell at a location
unfoldable pub leads_at : shows.Over → List ℕ → (to at : ℕ) → Bool
leads_at o ns to at =
    layouts.is_pointer_cell (location o.layout at)
    && (shows.is_it to (shows.object_of o (shows.cell_now o at))
    && (not (shows.has o flag.Freed (shows.root_at o at)) && shows.is_among ns (shows.root_at o at)))

-- whether one of some objects leads to another one
unfoldable pub some_leads : shows.Over → List ℕ → (to : ℕ) → Bool
some_leads o ns to = list_any (λ m. shows.leads o m to) ns

unfoldable pub comes_next : shows.Over → List ℕ → ℕ → Bool
comes_next o ns n = shows.is_among ns n || some_leads o ns n

unfoldable pub further : shows.Over → List ℕ → List ℕ
further o ns = shows.one_further o ns

unfoldable pub walked : (steps : ℕ) → shows.Over → List ℕ → List ℕ
walked steps o ns = shows.walked steps o ns

unfoldable pub reached : shows.Over → List ℕ → List ℕ
reached o ns = shows.reached o ns

abbrev pub is_reached : shows.Over → Option ℕ → Beside → ℕ → Bool
is_reached o first b n = shows.is_among (reached o (held o first b)) n

abbrev pub is_reached_if : shows.Over → Option ℕ → Beside → Option ℕ → Bool
is_reached_if o first b n = shows.is_among_if (reached o (held o first b)) n

-- Objects.

unfoldable pub is_escaped : shows.Over → ℕ → Bool
is_escaped o n = shows.is_escaped o n

unfoldable pub is_own : shows.Over → Cell → Bool
is_own o c = shows.is_own o c

-- the kind of a pointer beside some holders
unfoldable pub kind : shows.Over → Option ℕ → Beside → Cell → State
kind o first b c =
    if not (worlds.is_true c)
    then state.Null
    else (if is_own o c && not (is_reached_if o first b (shows.object_of o c)) then state.Fresh else state.Other)

unfoldable pub kind_of_result : shows.Over → State
kind_of_result o = shows.kind_of_result o (shows.result_cell o.ended)

unfoldable pub kind_of_cell : shows.Over → ℕ → State
kind_of_cell o at = shows.kind_of_cell o at (shows.cell_now o at)

unfoldable pub result_kind : shows.Over → State
result_kind o = shows.result_kind o

unfoldable pub fate : shows.Over → ℕ → State
fate o at = shows.fate o at

unfoldable pub out_fate : shows.Over → ℕ → State
out_fate o at = shows.out_fate o at

unfoldable pub is_from : shows.Over → Pos → ℕ → Bool
is_from o p at = shows.is_at p (shows.call_pos o.layout (location o.layout at).origin)

unfoldable pub is_lost : shows.Over → ℕ → Bool
is_lost o at = shows.is_lost o at

unfoldable pub is_lost_from : shows.Over → Pos → ℕ → Bool
is_lost_from o p at = is_from o p at && is_lost o at

unfoldable pub loses : shows.Over → Pos → Bool
loses o p = shows.loses o p

-- Questions.

abbrev pub has_exit_row : shows.Over → Row → Bool
has_exit_row o r =
    shows.exits o && known.same_row r (known.row (given o) state.Nil (shows.result o) (result_kind o))

abbrev pub has_change : shows.Over → ℕ → Row → Bool
has_change o at r =
    shows.exits o
    && known.same_row r
    (known.row (given o) (state.At (state_before o at)) (shows.result o) (state.At (state_now o at)))

abbrev pub has_error : shows.Over → ℕ → Row → Bool
has_error o at r =
    shows.errs_at o.ended at
    && known.same_row r (known.row (given o) (state.At (state_before o at)) gives.Nothing state.Bad)

abbrev pub has_lock_row : shows.Over → ℕ → Row → Bool
has_lock_row o at r = is_met o at && (has_change o at r || has_error o at r)

abbrev pub has_changed : shows.Over → ℕ → Bool
has_changed o n = shows.exits o && shows.is_fate (fate o (param_object o n))

abbrev pub has_param_row : shows.Over → ℕ → Row → Bool
has_param_row o n r =
    shows.exits o
    && (is_given o n
    && known.same_row r (known.row (given o) state.Nil (shows.result o) (fate o (param_object o n))))

abbrev pub has_out_row : shows.Over → ℕ → Row → Bool
has_out_row o n r =
    shows.exits o
    && (is_given o n
    && known.same_row r (known.row (given o) state.Nil (shows.result o) (out_fate o (param_object o n))))

abbrev pub leaks : shows.Over → Pos → Bool
leaks o p = shows.exits o && loses o p
