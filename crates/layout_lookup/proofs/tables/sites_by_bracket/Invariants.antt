use Rattle.std.proofs.Common.{◌≡◌, map, drop}
use Rattle.std.specs.HashMap.{get}
use Rattle.sc_gather.specs.Seen.{call}
use Rattle.layout_lookup.specs.declared.key.Place.{Place}
use Rattle.layout_lookup.specs.Firsts.{or_else, first_of}
use Rattle.layout_lookup.specs.Keys.{same_place}
use Rattle.layout_lookup.specs.Tables.{has_bracket}
use Rattle.layout_lookup.proofs.tables.sites_by_bracket.Given as goal

-- what the table does not have is the first of the rest
abbrev pub invariant-loop-site : goal.invariant-loop-site
invariant-loop-site l =
    (q : Place) → first_of (has_bracket q) 0 (map call l.sites)
    ≡ or_else (get same_place l.table q) (first_of (has_bracket q) l.at (map call (drop l.site-index l.sites)))
