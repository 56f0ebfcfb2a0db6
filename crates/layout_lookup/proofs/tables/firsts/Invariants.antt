use Rattle.std.proofs.Common.{◌≡◌, ◌++◌, map, drop}
use Rattle.sc_gather.specs.Seen.{call}
use Rattle.layout_lookup.specs.Tables.{firsts, firsts_behind}
use Rattle.layout_lookup.proofs.tables.firsts.Given as goal

-- what is missing are the numbers behind the last one
abbrev pub invariant-loop-site : goal.invariant-loop-site
invariant-loop-site l =
    firsts (map call l.sites) ≡ l.numbers.items ++ firsts_behind l.next (map call (drop l.site-index l.sites))
