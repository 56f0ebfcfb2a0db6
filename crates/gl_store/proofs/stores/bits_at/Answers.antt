use Rattle.std.proofs.Common.{arith, refl}
use Rattle.gl_store.proofs.PlaceLemmas.{number_past, number_there}
use Rattle.gl_store.proofs.stores.bits_at.Goals as goal

pub returns-then-at-locations : goal.returns-then-at-locations
returns-then-at-locations c = number_there c.args.locations.now c.args.at c.index-locations-at.result _ c.if-at-locations.true c.bits_of.ensures.below c.bits_of.ensures.value

pub returns-else-at-locations : goal.returns-else-at-locations
returns-else-at-locations c = number_past c.args.locations.now c.args.at _ c.if-at-locations.false refl
