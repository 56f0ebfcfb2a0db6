-- Items with those of some rows that stand.
use Rattle.std.specs.Prelude.{ℕ, List, map}
use Rattle.sum_rows.specs.declared.row.Item.{Item}
use Rattle.sum_rows.specs.declared.row.Item.TheVariants as items
use Rattle.sum_rows.specs.declared.row.ItemRows.{ItemRows}
use Rattle.sum_rows.specs.declared.row.Row.{Row}
use Rattle.sc_world.specs.Layout.{Layout}
use Rattle.sc_world.specs.Paths.{path_of}
use Rattle.sc_world.specs.Verdict.{Answers}
use Rattle.fn_rows.specs.Asked.{standing}
use Rattle.fn_rows.specs.declared.asking.Subject.{Subject}
use Rattle.fn_rows.specs.declared.asking.Subject.TheVariants as subjects
use Rattle.fn_rows.specs.declared.items.Sort.{Sort}
use Rattle.fn_rows.specs.declared.items.Sort.TheVariants as sort

abbrev pub subject : Sort → ℕ → Subject
subject sort.Lock n = subjects.Lock n
subject sort.Param n = subjects.Param n
subject sort.Out n = subjects.Out n

abbrev pub item : Layout → Subject → Item
item p subjects.Exit = items.Exit
item p (subjects.Lock at) = items.Lock (path_of p at)
item p (subjects.Param n) = items.Param n
item p (subjects.Out n) = items.Out n

abbrev pub item_rows : Layout → Answers → List Row → Subject → ItemRows
item_rows p q candidates s = record { item = item p s; rows = standing q s candidates }

-- the items of a sort that have these numbers
abbrev pub items_of : Layout → Answers → List Row → Sort → List ℕ → List ItemRows
items_of p q candidates t ns = map (λ n. item_rows p q candidates (subject t n)) ns
