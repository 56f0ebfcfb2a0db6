use Rattle.bit_net.proofs.Growth.{Grown-refl, Grown-trans}
use Rattle.layout_base.specs.Seen.{location_of}
use Rattle.gate_entry.proofs.Making.{put_none, put_step, put_whole, made_cell}
use Rattle.gate_entry.proofs.entry.push_cells.Goals as goal

pub loop-location-init : goal.loop-location-init
loop-location-init c = record { grown = Grown-refl _; put = put_none _ _ _ _ _ _ }

pub loop-location-preserved : goal.loop-location-preserved
loop-location-preserved c =
    let grown = Grown-trans _ _ _ c.loop-location.invariant.grown c.in_ok-val.ensures.grown in
    record {
      grown = grown;
      put =
          put_step _ _ _ _ location_of c.args.locations.now c.loop-location.location-index c.location-item.result c.loop-location-test.true c.location-item.is _ _ _ _ _ _
          c.in_ok-val.ensures.grown c.in_ok-push.ensures.items (made_cell _ _ _ _ _ _ grown c.no_flags-flags.ensures c.in_ok-val.ensures.ok)
          c.loop-location.invariant.put;
    }

pub returns-clause-ok : goal.returns-clause-ok
returns-clause-ok c =
    put_whole _ _ _ _ location_of c.args.locations.now c.loop-location.location-index c.loop-location-test.false _ _ _ c.loop-location.invariant.put
