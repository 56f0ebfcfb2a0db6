-- With the calls that are left the numbers are whole.
use Rattle.std.proofs.Common.{◌≡◌, ◌++◌, drop, map}
use Rattle.sc_gather.specs.Seen.{call}
use Rattle.choice_json.specs.Speakers.{firsts_of}
use Rattle.choice_json.proofs.calls.firsts_of.Given as goal

abbrev pub invariant-loop-site : goal.invariant-loop-site
invariant-loop-site l =
    l.firsts.items ++ firsts_of l.before (map call (drop l.site-index l.sites)) ≡ firsts_of 0 (map call l.sites)
