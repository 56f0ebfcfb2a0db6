use Rattle.std.proofs.Common.{refl, subst, arith}
use Rattle.layout_base.specs.Seen as laid
use Rattle.run_world.specs.Seen.{env}
use Rattle.sc_world.specs.Layout.{Layout}
use Rattle.sc_world.specs.View.{type}
use Rattle.gate_paths.specs.Cells.{FindsWrites}
use Rattle.gate_paths.specs.Gathered.{FindsLocks, FindsOuts}
use Rattle.gate_states.proofs.Staying.{args_stay}
use Rattle.gate_known.proofs.Finding.{does_known_by, is_called}
use Rattle.gate_known.proofs.knowing.known.Goals as goal

pub outs-requires-clause-args : goal.outs-requires-clause-args
outs-requires-clause-args c = args_stay c.args.net.now c.locks.new.net c.args.args.now c.in_ok-locks.ensures.grown.longer c.requires.args

pub writes-requires-clause-args : goal.writes-requires-clause-args
writes-requires-clause-args c =
    args_stay c.args.net.now c.outs.new.net c.args.args.now (omega (arith, c.in_ok-locks.ensures.grown.longer, c.in_ok-outs.ensures.grown.longer)) c.requires.args

pub entry_bits-requires : goal.entry_bits-requires
entry_bits-requires c =
    record {
      args =
          args_stay c.args.net.now c.writes.new.net c.args.args.now
          (omega (arith, c.in_ok-locks.ensures.grown.longer, c.in_ok-outs.ensures.grown.longer, c.in_ok-writes.ensures.grown.longer)) c.requires.args;
    }

pub acts-requires-clause-called : goal.acts-requires-clause-called
acts-requires-clause-called c =
    is_called c.args.net.now c.locks.new.net c.outs.new.net c.writes.new.net c.entry_bits.new.net _ c.in_ok-locks.locks.items c.in_ok-outs.outs.items
    c.in_ok-writes.writes.items c.in_ok-given.given.bits.items c.in_ok-locks.ensures.grown c.in_ok-outs.ensures.grown c.in_ok-writes.ensures.grown
    c.in_ok-given.ensures.grown c.as_slice-2.ensures.value c.as_slice-3.ensures.value c.as_slice-4.ensures.value c.as_slice.ensures.value
    c.requires.args c.in_ok-locks.ensures.ok.below c.in_ok-outs.ensures.ok.below c.in_ok-writes.ensures.ok.below c.in_ok-given.ensures.ok

pub returns-clause-ok : goal.returns-clause-ok
returns-clause-ok c =
    let p = (env c.args.here.now).layout in
    does_known_by (env c.args.here.now).source p c.locks.new.net c.outs.new.net c.writes.new.net c.entry_bits.new.net _ (type c.args.knowing.t.now)
    (laid.occurrence_of c.args.knowing.occurrence) c.args.knowing.summary.now _ _ _ _ _ c.spots_of-spots.result.locks c.spots_of-spots.result.outs
    c.spots_of-spots.result.writes c.in_ok-r.r _ _ c.in_ok-locks.locks.items c.in_ok-outs.outs.items c.in_ok-writes.writes.items
    c.in_ok-outs.ensures.grown c.in_ok-writes.ensures.grown c.in_ok-given.ensures.grown c.in_ok-r.ensures.grown
    refl refl c.as_slice-items.ensures c.as_slice-cells.ensures c.as_slice-2.ensures.value c.as_slice-3.ensures.value c.as_slice-4.ensures.value
    c.spots_of-spots.ensures.locks c.spots_of-spots.ensures.outs c.spots_of-spots.ensures.writes
    (subst (λ (q : Layout). FindsLocks c.locks.new.net q c.args.stored.now.locations.items c.args.args.now c.spots_of-spots.result.locks c.as_slice-items.result.now c.in_ok-locks.locks.items) c.requires.same c.in_ok-locks.ensures.ok)
    (subst (λ (q : Layout). FindsOuts c.outs.new.net q c.args.stored.now.locations.items c.args.args.now c.spots_of-spots.result.outs c.as_slice-items.result.now c.in_ok-outs.outs.items) c.requires.same c.in_ok-outs.ensures.ok)
    (subst (λ (q : Layout). FindsWrites c.writes.new.net q c.args.stored.now.locations.items c.args.args.now c.as_slice-items.result.now c.spots_of-spots.result.writes c.as_slice-cells.result.now c.in_ok-writes.writes.items) c.requires.same c.in_ok-writes.ensures.ok)
    c.in_ok-r.ensures.ready c.in_ok-r.ensures.locations c.in_ok-r.ensures.ok
