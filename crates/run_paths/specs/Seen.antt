-- What contracts see of what a known call has to do with: as what the definitions are made of.
use Rattle.std.specs.Prelude.{ℕ, ◌≤◌, Bool, Option, Some, None, Result, Ok, Err, List, ◌++◌, length}
use Rattle.sum_rows.specs.declared.row.Item.{Item}
use Rattle.sum_rows.specs.declared.row.Summary.{Summary}
use Rattle.sc_world.specs.Source.{Source, sum_at}
use Rattle.sum_rows.specs.declared.path.Step.{Step}
use Rattle.sc_world.specs.Layout.{Layout, part}
use Rattle.sc_world.specs.World.{World, Ended}
use Rattle.sc_world.specs.Known as spec
use Rattle.run_world.specs.Seen.{cell}
use Rattle.run_paths.specs.declared.buffer.Found.{Found}
use Rattle.run_paths.specs.declared.buffer.Written.{Written}
use Rattle.run_paths.specs.declared.gathered.Sort.{Sort}
use Rattle.run_paths.specs.declared.gathered.Sort.TheVariants as sort
use Rattle.run_paths.specs.declared.follow.Come.{Come}
use Rattle.run_paths.specs.declared.follow.Come.TheVariants as to

-- an item of a location
abbrev pub locked : Found → spec.Locked
locked f = record { rows = f.rows.now; bit = f.bit; at = f.at }

-- a pointer that a parameter points to
abbrev pub outed : Found → spec.Outed
outed f = record { rows = f.rows.now; bit = f.bit; object = f.object; at = f.at }

abbrev pub written : Written → spec.Written
written x = record { width = x.width; bit = x.bit; object = x.object; at = x.at }

abbrev pub come : Come → spec.Come
come (to.At at) = spec.At at
come (to.Holds c) = spec.Holds (cell c)

-- A summary with at most so many items and written cells.
abbrev pub Fits : ℕ → Option Summary → Type 0
Fits most None = Unit {0}
Fits most (Some sum) = (length sum.items ≤ most) × (length sum.writes ≤ most)

-- All summaries that a function reads are such.
abbrev pub FitsAll : Source → ℕ → Type 0
FitsAll s most = (k : ℕ) → Fits most (sum_at s k)

-- the part to which a step leads from a location
abbrev pub part_of : Layout → Step → spec.Come → Option ℕ
part_of p s (spec.At at) = part p at s
part_of p s (spec.Holds c) = None

-- whether an item is of a sort
abbrev pub is_of : Sort → Item → Bool
is_of sort.Lock i = spec.is_lock i
is_of sort.Param i = spec.is_param i
is_of sort.Out i = spec.is_out_item i

-- what is gathered, with these before
abbrev pub joined : {A : Type 0} → List A → Result (List A) Ended × World → Result (List A) Ended × World
joined front (Ok xs, w) = (Ok (front ++ xs), w)
joined front (Err e, w) = (Err e, w)
