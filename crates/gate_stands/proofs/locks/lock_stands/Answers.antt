use Rattle.run_world.specs.Seen as seen
use Rattle.gate_stands.proofs.Items.{is_lock_gate}
use Rattle.gate_stands.proofs.locks.lock_stands.Goals as goal

pub returns-clause-ok : goal.returns-clause-ok
returns-clause-ok c =
    is_lock_gate (seen.env c.args.here.now).source (seen.env c.args.here.now).layout c.state_before.new.net c.state_after.new.net c.lock_row.new.net
    c.or.new.self c.args.store.now.locations.items c.args.lock.now c.args.given.now c.in_ok-before.before.bits.items _ c.in_ok-after.after.bits.items _
    c.args.outcome c.in_ok-count.count c.in_ok-row.row.at c.points.result.at _ c.in_ok-after.ensures.grown c.in_ok-row.ensures.grown c.in_ok-r.ensures.grown
    c.in_ok-count.ensures c.deref.ensures.value c.deref-2.ensures.value c.in_ok-before.ensures.ok c.in_ok-after.ensures.ok c.in_ok-row.ensures.ok
    c.points.ensures c.in_ok-r.ensures.ok
