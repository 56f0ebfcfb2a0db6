-- What a replay says of the files that were read: the run of the first function of that name, on the choice that digits
-- spell, as text or as JSON; or the first reason why there is none: those of a check; no function has that name, it is skipped,
-- no choice of it is spelled so.
use Rattle.std.specs.Prelude.{ℕ, nat_le, nat_lt, Bool, ◌&&◌, List, [], length, map, if◌then◌else◌, slice_index_or, position, Option, Some, None}
use Rattle.std.specs.Str.{bytes_eq}
use Rattle.sc_base.specs.declared.skip.LimitKind.{LimitKind}
use Rattle.sc_base.specs.declared.skip.LimitKind.TheVariants as limit
use Rattle.sc_typed.specs.declared.program.Program.{Program}
use Rattle.sc_typed.specs.declared.program.Function.{Function}
use Rattle.sc_check.specs.Typed.{Sources, Answer, Typed, Duplicate, TooMany, typed}
use Rattle.program_plan.specs.Planned.{edges_of, most_edges}
use Rattle.program_verdicts.specs.Verdicts.{verdict_in, kept_of}
use Rattle.fn_replay.specs.Replays.{Form, Replayed, replay_given}
use Rattle.fn_replay.specs.Replays as replays

pub data Told : Type 0 where
  -- the run, in the form that was asked for
  Run : (bytes : List ℕ) → Told
  -- a function of this name has a second body
  Twice : (name : List ℕ) → Told
  -- a limit, and the count that passes it
  Beyond : LimitKind → ℕ → Told
  -- no function has that name
  NoFunction : Told
  -- the function is skipped
  Skipped : Told
  -- no choice of the function is spelled so
  BadChoice : Told

abbrev pub told_of_replay : Replayed → Told
told_of_replay replays.Skipped = Skipped
told_of_replay replays.BadChoice = BadChoice
told_of_replay (replays.Told bytes) = Run bytes

-- ---- the function

abbrev pub has_name : Program → (name : List ℕ) → Function → Bool
has_name p name f = nat_lt f.name.at (length p.names) && bytes_eq (slice_index_or p.names f.name.at []) name

-- the number of the first function of that name, in the order of the program
abbrev pub function_named : Program → (name : List ℕ) → Option ℕ
function_named p name = position (has_name p name) p.functions

-- ---- its run

-- of the function with that number, if there is one, by the verdicts of the functions that it needs
abbrev pub told_of_function : Form → Program → (depth reach : ℕ) → (digits : List ℕ) → Option ℕ → Told
told_of_function form p depth reach digits None = NoFunction
told_of_function form p depth reach digits (Some f) =
    told_of_replay (replay_given form p depth reach f (kept_of p f) (map (verdict_in p depth reach) (kept_of p f)) digits)

abbrev pub told_of_program : Form → Program → (depth reach : ℕ) → (name digits : List ℕ) → Told
told_of_program form p depth reach name digits =
    if nat_le (edges_of p) most_edges then told_of_function form p depth reach digits (function_named p name) else Beyond limit.Edges (edges_of p)

abbrev pub told_of : Form → Sources → (depth reach : ℕ) → (name digits : List ℕ) → Answer → Told
told_of form s depth reach name digits (Typed p) = told_of_program form p depth reach name digits
told_of form s depth reach name digits (Duplicate twice) = Twice (slice_index_or s.names twice [])
told_of form s depth reach name digits (TooMany count) = Beyond limit.Functions count

-- what a replay says of the trees of all files
unfoldable pub told : Form → Sources → (depth reach : ℕ) → (name digits : List ℕ) → Told
told form s depth reach name digits = told_of form s depth reach name digits (typed s)
