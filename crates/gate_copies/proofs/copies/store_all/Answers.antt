use Rattle.std.proofs.Common.{map, ap, subst, arith}
use Rattle.bit_net.proofs.Growth.{Grown-refl, Grown-trans}
use Rattle.gate_copies.specs.Objects.{cells_in}
use Rattle.gate_copies.specs.Readings.{guarded_top}
use Rattle.gate_copies.specs.Copies.{IsStoredIn}
use Rattle.gate_copies.proofs.Copying.{reading_top, stored_none, stored_step}
use Rattle.gate_copies.proofs.copies.store_all.Goals as goal

pub loop-number-init : goal.loop-number-init
loop-number-init c = record { grown = Grown-refl _; so_far = stored_none _ _ _ _ _ _ c.requires.store }

pub store_number-requires-clause-reading : goal.store_number-requires-clause-reading
store_number-requires-clause-reading c =
    let top = reading_top c.args.readings.now c.loop-number.number c.index-readings-number.result (omega arith) in
    omega (arith, ap (λ r. guarded_top r.vals.items) c.index-readings-number.is, top, c.requires.readings, c.loop-number.invariant.grown.longer)

pub loop-number-preserved : goal.loop-number-preserved
loop-number-preserved c =
    record {
      grown = Grown-trans _ _ _ c.loop-number.invariant.grown c.in_ok-store_number.ensures.grown;
      so_far =
          stored_step c.args.live.at c.args.place.now.pairs.items (map cells_in c.args.objects.now) _ _ c.args.readings.now c.loop-number.number
          c.index-readings-number.result _ _ _ (omega arith) c.in_ok-store_number.ensures.grown
          (subst (λ r. IsStoredIn c.store_number.new.net c.args.live.at c.args.place.now.pairs.items (map cells_in c.args.objects.now) c.loop-number.number r c.loop-number.stored.locations.items c.store_number.new.stored.locations.items)
          c.index-readings-number.is c.in_ok-store_number.ensures.ok)
          c.loop-number.invariant.so_far;
    }
