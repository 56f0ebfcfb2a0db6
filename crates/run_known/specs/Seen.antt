-- What contracts see of the data of a known call: as what the definitions are made of.
use Rattle.std.specs.Prelude.{ℕ, max, List, [], ◌∷◌, length, nat_eq, Bool, Option, Some, None, map, if◌then◌else◌}
use Rattle.sum_rows.specs.declared.row.Summary.{Summary}
use Rattle.sum_rows.specs.declared.row.State.{State}
use Rattle.sum_rows.specs.declared.row.State.TheVariants as state
use Rattle.run_store.specs.Concrete.{Numbers, Pointers}
use Rattle.sc_world.specs.Tree.{Ty}
use Rattle.sc_world.specs.Source.{Source}
use Rattle.sc_world.specs.World.{kind_of_type}
use Rattle.sc_world.specs.Known as spec
use Rattle.layout_base.specs.Seen.{occurrence_of}
use Rattle.run_world.specs.Seen.{cell}
use Rattle.run_paths.specs.declared.buffer.Found.{Found}
use Rattle.run_paths.specs.Seen.{locked, outed, written}
use Rattle.run_known.specs.declared.rows.Side.{Side}
use Rattle.run_known.specs.declared.rows.Side.TheVariants as side
use Rattle.run_known.specs.declared.given.Given.{Given}
use Rattle.run_known.specs.declared.acting.Acting.{Acting}

-- the state that is sought in rows
abbrev pub sought : Side → State
sought (side.Numbered n) = state.At n
sought (side.Named s) = s

abbrev pub given : Given → spec.Given
given g = record { value = cell g.value; result = g.result; kind = g.kind; object = g.object }

abbrev pub given_if : Option Given → Option spec.Given
given_if None = None
given_if (Some g) = Some (given g)

abbrev pub locked_if : Option Found → Option spec.Locked
locked_if None = None
locked_if (Some f) = Some (locked f)

abbrev pub acting : Acting → spec.Acting
acting a =
    record {
      summary = a.summary.now;
      occurrence = occurrence_of a.occurrence;
      args = map cell a.arguments.now;
      given = a.given;
      locks = map locked a.locks.now;
      outs = map outed a.outs.now;
      writes = map written a.writes.now;
    }

-- whether a location of that type is of the kind of a written cell of that width: 0 is the width of pointers
abbrev pub takes : Source → Option Ty → ℕ → Bool
takes s t width = spec.same_kind (kind_of_type s t) (if nat_eq width 0 then Pointers else Numbers width)

-- the items or the written cells of a summary, the larger number of both
abbrev pub size_of : Option Summary → ℕ
size_of None = 0
size_of (Some sum) = max (length sum.items) (length sum.writes)

-- the largest of some summaries
abbrev pub most_of : List (Option Summary) → ℕ
most_of [] = 0
most_of (s ∷ ss) = max (size_of s) (most_of ss)
