use Rattle.std.proofs.Common.{◌≡◌, drop, map}
use Rattle.sc_world.specs.Occurrences.{number_all}
use Rattle.sc_gather.specs.Seen.{call}
use Rattle.layout_base.specs.Seen.{ground_of, layout_of}
use Rattle.places.proofs.numbering.number_all.Given as goal

abbrev pub invariant-loop-site : goal.invariant-loop-site
invariant-loop-site l =
    number_all l.k (map call (drop l.site-index l.sites)) (ground_of l.ground) (layout_of l.laid)
    ≡ number_all 0 (map call l.fn.sites) (ground_of l.fn.ground) (layout_of l.fn.laid)
