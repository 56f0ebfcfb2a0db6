use Rattle.std.proofs.Common.{arith, refl}
use Rattle.gl_store.proofs.PlaceLemmas.{locations_top-at, put_past, put_there}
use Rattle.gl_store.proofs.stores.put_at.Goals as goal

pub returns-then-at-locations-clause-ok : goal.returns-then-at-locations-clause-ok
returns-then-at-locations-clause-ok c = put_past _ c.args.when.at c.args.at c.args.v.now c.args.locations.now c.if-at-locations.true c.requires.locations

pub overwrite-requires-clause-val : goal.overwrite-requires-clause-val
overwrite-requires-clause-val c = omega (arith, locations_top-at c.args.locations.now c.args.at c.index-locations-at.result c.if-at-locations.false, c.requires.locations)

pub returns-clause-ok : goal.returns-clause-ok
returns-clause-ok c =
    put_there _ _ c.args.when.at c.args.at c.args.v.now c.args.locations.now _ c.index-locations-at.result _ c.in_ok-overwrite.ensures.grown c.if-at-locations.false c.requires.locations
    refl refl c.in_ok-overwrite.ensures.ok
