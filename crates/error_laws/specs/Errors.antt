-- Where a run ends by an error.
use Rattle.std.specs.Prelude.{◌≡◌, ◌<◌, Bool, true, false, Option, Some, None, length, Result, Ok, Err}
use Rattle.std.specs.List.{list_all}
use Rattle.run_store.specs.Concrete.{Cell}
use Rattle.sum_rows.specs.declared.path.Root.{Root}
use Rattle.sum_rows.specs.declared.path.Root.TheVariants as root
use Rattle.sum_rows.specs.declared.row.Item.{Item}
use Rattle.sum_rows.specs.declared.row.Item.TheVariants as item
use Rattle.sum_rows.specs.declared.row.ItemRows.{ItemRows}
use Rattle.sum_rows.specs.declared.row.Summary.{Summary}
use Rattle.sc_world.specs.Source.{Source, Effect, Known, sum_at}
use Rattle.sc_world.specs.Layout.{Layout, location, is_outer}
use Rattle.sc_world.specs.Gather.{Site}
use Rattle.sc_world.specs.World.{Ended, Error, Inner, Aside}

-- at a location, and it is told whether callers know the location
abbrev pub IsErrorAt : Layout → Ended → Type 0
IsErrorAt p (Error at) = (at < length p.locations) × (is_outer (location p at) ≡ true)
IsErrorAt p (Inner at) = (at < length p.locations) × (is_outer (location p at) ≡ false)
IsErrorAt p (Aside r) = Unit {0}

abbrev pub IsErrorOf : Layout → Result Cell Ended → Type 0
IsErrorOf p (Ok c) = Unit {0}
IsErrorOf p (Err e) = IsErrorAt p e

-- Calls that have nothing to do with a global.

abbrev pub is_param : Root → Bool
is_param (root.Param n) = true
is_param (root.Global n) = false

-- the item is of no location that is reached from a global
abbrev pub is_of_param : Item → Bool
is_of_param (item.Lock x) = is_param x.root
is_of_param _ = true

-- no location that the summary has an item of is reached from a global
abbrev pub is_of_params : Option Summary → Bool
is_of_params None = true
is_of_params (Some sum) = list_all (λ (x : ItemRows). is_of_param x.item) sum.items

abbrev pub does_of_params : Source → Effect → Bool
does_of_params s (Known k) = is_of_params (sum_at s k)
does_of_params s _ = true

-- the same of all calls of the text
abbrev pub all_of_params : Source → Layout → Bool
all_of_params s p = list_all (λ (x : Site). does_of_params s x.effect) p.sites
