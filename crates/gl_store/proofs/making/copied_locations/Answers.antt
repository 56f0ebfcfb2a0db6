use Rattle.std.proofs.Common.{subst, ap}
use Rattle.gl_store.specs.declared.stores.Location.{Location}
use Rattle.gl_store.specs.Steps.{IsSame}
use Rattle.gl_store.proofs.CopyLemmas.{copied_none, copied_more, copied_whole}
use Rattle.gl_store.proofs.making.copied_locations.Goals as goal

pub loop-location-init : goal.loop-location-init
loop-location-init c = copied_none _ c.new-locations.ensures.items

pub loop-location-preserved : goal.loop-location-preserved
loop-location-preserved c =
    copied_more c.args.old.now c.loop-location.locations.items _ c.loop-location.location-index c.location-item.result _ c.loop-location-test.true
    c.in_ok-push.ensures.items (subst (λ (l : Location). IsSame l.val c.in_ok-val.val) c.location-item.is c.in_ok-val.ensures)
    (ap (λ (l : Location). l.flags) c.location-item.is) c.loop-location.invariant

pub returns : goal.returns
returns c = copied_whole c.args.old.now _ c.loop-location.location-index c.loop-location-test.false c.loop-location.invariant
