use Rattle.std.proofs.Common.{◌≡◌, [], map, drop}
use Rattle.sc_gather.specs.Seen.{call}
use Rattle.fn_verdict.specs.Leaks.{places_of_calls}
use Rattle.fn_verdict.proofs.leaks.places_of_calls.Given as goal

abbrev pub invariant-loop-site : goal.invariant-loop-site
invariant-loop-site l =
    places_of_calls l.found.items (map call (drop l.site-index l.site-items)) ≡ places_of_calls [] (map call l.site-items)
