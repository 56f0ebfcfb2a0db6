-- Which items of a summary are those of a subject.
use Rattle.std.specs.Prelude.{nat_eq, Bool, true, false, ◌&&◌, List, [], ◌∷◌, if◌then◌else◌}
use Rattle.std.specs.List.{list_any, flat_map}
use Rattle.sum_rows.specs.declared.path.Path.{Path}
use Rattle.sum_rows.specs.declared.path.Root.{Root}
use Rattle.sum_rows.specs.declared.path.Root.TheVariants as root
use Rattle.sum_rows.specs.declared.path.Step.{Step}
use Rattle.sum_rows.specs.declared.row.Item.{Item}
use Rattle.sum_rows.specs.declared.row.Item.TheVariants as item
use Rattle.sum_rows.specs.declared.row.ItemRows.{ItemRows}
use Rattle.sum_rows.specs.declared.row.Row.{Row}
use Rattle.sc_world.specs.Layout.{Layout, same_step}
use Rattle.sc_world.specs.Paths.{path_of}
use Rattle.left_out.specs.declared.misses.Subject.{Subject}
use Rattle.left_out.specs.declared.misses.Subject.TheVariants as subject

abbrev pub same_root : Root → Root → Bool
same_root (root.Param m) (root.Param n) = nat_eq m n
same_root (root.Global m) (root.Global n) = nat_eq m n
same_root _ _ = false

abbrev pub same_steps : List Step → List Step → Bool
same_steps [] [] = true
same_steps (s ∷ ss) (t ∷ ts) = same_step s t && same_steps ss ts
same_steps _ _ = false

abbrev pub same_path : Path → Path → Bool
same_path a b = same_root a.root b.root && same_steps a.steps b.steps

abbrev pub same_item : Item → Item → Bool
same_item item.Exit item.Exit = true
same_item (item.Lock a) (item.Lock b) = same_path a b
same_item (item.Param m) (item.Param n) = nat_eq m n
same_item (item.Out m) (item.Out n) = nat_eq m n
same_item _ _ = false

-- the item in which rows of the subject stand
abbrev pub item_of : Layout → Subject → Item
item_of p subject.Exit = item.Exit
item_of p (subject.Lock at) = item.Lock (path_of p at)
item_of p (subject.Param n) = item.Param n
item_of p (subject.Out n) = item.Out n

-- whether one of the items is that one
abbrev pub is_listed : List ItemRows → Item → Bool
is_listed items i = list_any (λ x. same_item i x.item) items

-- its rows; an item may stand in several places, whose rows count together
abbrev pub rows_of : List ItemRows → Item → List Row
rows_of items i = flat_map (λ x. if same_item i x.item then x.rows else []) items
