-- Two places are exchanged.
use Rattle.std.proofs.Common.{arith}
use Rattle.std.proofs.lemmas.List.{get_or_read}
use Rattle.sat_trail.proofs.PlaceLemmas.{order_exchanged}
use Rattle.sat_trail.proofs.trail.exchange.Goals as goal

pub returns-clause-order : goal.returns-clause-order
returns-clause-order c =
    let at = get_or_read c.args.places.now.items _ _ c.requires.variable c.index-place.ensures 0 in
    let before = c.requires.place in
    order_exchanged c.args.order.now.items c.args.places.now.items c.args.k c.index-place.result.now c.args.step c.index-moved.result.now
    c.requires.order c.requires.variable at (omega (arith, before, at)) c.index-moved.ensures
