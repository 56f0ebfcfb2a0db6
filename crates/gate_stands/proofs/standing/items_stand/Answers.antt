use Rattle.std.proofs.Common.{arith}
use Rattle.run_world.specs.Seen as seen
use Rattle.gate_states.proofs.Staying.{args_stay, items_stay}
use Rattle.gate_stands.proofs.Joining.{are_items}
use Rattle.gate_stands.proofs.standing.items_stand.Goals as goal

pub params_stand-requires-clause-spot : goal.params_stand-requires-clause-spot
params_stand-requires-clause-spot c = omega (arith, c.spots_of-spot.ensures.params, c.spots_of-spot.ensures.writes, c.spots_of-spot.ensures.most)

pub params_stand-requires-clause-args : goal.params_stand-requires-clause-args
params_stand-requires-clause-args c =
    args_stay c.args.net.now _ c.args.called.now.args.now c.in_ok-locks.ensures.grown.longer c.requires.called.args

pub outs_stand-requires-clause-outs : goal.outs_stand-requires-clause-outs
outs_stand-requires-clause-outs c =
    items_stay c.args.net.now _ c.args.called.now.outs.now (omega (arith, c.in_ok-locks.ensures.grown.longer, c.in_ok-params.ensures.grown.longer))
    c.requires.called.outs

pub returns-clause-ok : goal.returns-clause-ok
returns-clause-ok c =
    are_items (seen.env c.args.here.now).source (seen.env c.args.here.now).layout c.args.net.now c.locks_stand.new.net c.params_stand.new.net
    c.outs_stand.new.net c.and.new.self c.and-2.new.self c.args.store.now.locations.items c.args.called.now c.args.outcome c.spots_of-spot.result.params
    c.as_slice-items.result.now _ _ _ _ _ c.requires.called c.in_ok-locks.ensures.grown c.in_ok-params.ensures.grown c.in_ok-outs.ensures.grown
    c.in_ok-rest.ensures.grown c.in_ok-r.ensures.grown c.as_slice-items.ensures c.spots_of-spot.ensures.params c.in_ok-locks.ensures.ok c.in_ok-params.ensures.ok
    c.in_ok-outs.ensures.ok c.in_ok-rest.ensures.ok c.in_ok-r.ensures.ok
