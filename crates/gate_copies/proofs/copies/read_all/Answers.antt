use Rattle.std.proofs.Common.{◌≡◌, map, subst, arith}
use Rattle.bit_net.proofs.Growth.{Grown-refl, Grown-trans}
use Rattle.run_world.specs.Seen as seen
use Rattle.gate_copies.specs.Objects.{cells_in, most}
use Rattle.gate_copies.specs.Copies.{HaveRead}
use Rattle.gate_copies.proofs.Copying.{readings_none, readings_step}
use Rattle.gate_copies.proofs.copies.read_all.Goals as goal

pub loop-number-init : goal.loop-number-init
loop-number-init c = record { grown = Grown-refl _; so_far = readings_none _ _ _ _ _ _ _ c.new-readings.ensures.items }

pub loop-number-preserved : goal.loop-number-preserved
loop-number-preserved c =
    record {
      grown = Grown-trans _ _ _ c.loop-number.invariant.grown c.in_ok-reading.ensures.grown;
      so_far =
          readings_step _ _ _ _ _ _ _ c.loop-number.number _ _ c.in_ok-reading.reading c.in_ok-reading.ensures.grown c.in_ok-reading.ensures.ok
          c.in_ok-push.ensures.items c.loop-number.invariant.so_far;
    }

pub returns-clause-ok : goal.returns-clause-ok
returns-clause-ok c =
    let all : c.loop-number.number ≡ most (map cells_in c.args.objects.now) = omega (arith, c.most_cells-number-end.ensures) in
    subst (λ n. HaveRead c.loop-number.net (seen.env c.args.here.now).source (seen.env c.args.here.now).layout c.args.store.now.locations.items c.args.from.now.pairs.items (map cells_in c.args.objects.now) n c.loop-number.readings.items)
    all c.loop-number.invariant.so_far
