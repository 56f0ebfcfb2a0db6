use Rattle.std.proofs.Common.{◌<◌, ◌-◌, length, arith}
use Rattle.gl_store.proofs.PlaceLemmas.{locations_top-at, read_none, read_there}
use Rattle.gl_store.proofs.stores.read_where.Goals as goal
use Rattle.gl_store.proofs.stores.read_where.Goals.{then-target-eq0-via-then-target-eq0, then-target-eq0-via-else-target-eq0+then-target-locations}

pub returns-then-target-eq0-clause-ok : goal.returns-then-target-eq0-clause-ok
returns-then-target-eq0-clause-ok c =
    read_none _ c.args.pair c.args.locations.now c.args.found.now
    (λ some. elim c.then-target-eq0.branch [ then-target-eq0-via-then-target-eq0 w ↦ omega arith | then-target-eq0-via-else-target-eq0+then-target-locations w ↦ omega arith ]) c.requires.found

pub overwrite-requires-clause-new : goal.overwrite-requires-clause-new
overwrite-requires-clause-new c =
    let low : c.args.pair.target - 1 < length c.args.locations.now = omega arith in
    omega (arith, locations_top-at c.args.locations.now (c.args.pair.target - 1) c.index-locations-target.result low, c.requires.locations)

pub returns-clause-ok : goal.returns-clause-ok
returns-clause-ok c =
    let low : c.args.pair.target - 1 < length c.args.locations.now = omega arith in
    read_there _ c.args.pair c.args.locations.now c.index-locations-target.result _ _ c.if-target-eq0.false low c.in_ok-overwrite.ensures.ok
