use Rattle.layout_base.specs.Seen.{layout_of, location_of}
use Rattle.fn_gates.proofs.Counting.{few_items, in_any_case}
use Rattle.fn_gates.proofs.Having.{many}
use Rattle.fn_gates.proofs.whole.in_gates.Goals as goal

pub returns-clause-few : goal.returns-clause-few
unfolding layout_of
returns-clause-few c =
    in_any_case c.in_ok-made.made (few_items location_of c.args.places.now.locations.items c.count.result c.count.ensures c.if-count-ge-TOO_MANY.false)

pub returns-then-count-ge-TOO_MANY-clause-exactly : goal.returns-then-count-ge-TOO_MANY-clause-exactly
unfolding layout_of
returns-then-count-ge-TOO_MANY-clause-exactly c = many _ _ c.count.result c.count.ensures c.if-count-ge-TOO_MANY.true
