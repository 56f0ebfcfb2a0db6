use Rattle.std.proofs.Common.{◌<◌, ◌-◌, length, arith, refl}
use Rattle.gl_store.proofs.PlaceLemmas.{locations_top-at, written_none, written_there}
use Rattle.gl_store.proofs.stores.write_where.Goals as goal
use Rattle.gl_store.proofs.stores.write_where.Goals.{then-target-eq0-via-then-target-eq0, then-target-eq0-via-else-target-eq0+then-target-locations}

pub returns-then-target-eq0-clause-ok : goal.returns-then-target-eq0-clause-ok
returns-then-target-eq0-clause-ok c =
    written_none _ c.args.when.at c.args.target c.args.v.now c.args.locations.now
    (λ some. elim c.then-target-eq0.branch [ then-target-eq0-via-then-target-eq0 w ↦ omega arith | then-target-eq0-via-else-target-eq0+then-target-locations w ↦ omega arith ]) c.requires.locations

pub overwrite-requires-clause-val : goal.overwrite-requires-clause-val
overwrite-requires-clause-val c =
    let low : c.args.target - 1 < length c.args.locations.now = omega arith in
    omega (arith, locations_top-at c.args.locations.now (c.args.target - 1) c.index-locations-target.result low, c.requires.locations)

pub returns-clause-ok : goal.returns-clause-ok
returns-clause-ok c =
    let low : c.args.target - 1 < length c.args.locations.now = omega arith in
    written_there _ _ c.args.when.at c.args.target c.args.v.now c.args.locations.now _ c.index-locations-target.result _ c.in_ok-overwrite.ensures.grown c.if-target-eq0.false low c.requires.locations
    refl refl c.in_ok-overwrite.ensures.ok
