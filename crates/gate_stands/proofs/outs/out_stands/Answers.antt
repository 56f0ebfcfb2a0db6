use Rattle.run_world.specs.Seen as seen
use Rattle.gate_stands.proofs.Items.{is_out_gate}
use Rattle.gate_stands.proofs.outs.out_stands.Goals as goal

pub returns-clause-ok : goal.returns-clause-ok
returns-clause-ok c =
    is_out_gate (seen.env c.args.here.now).source (seen.env c.args.here.now).layout c.args.net.now c.out_row.new.net c.or.new.self c.args.out.now
    c.args.given.now c.in_ok-after.after.bits.items _ c.args.outcome c.in_ok-row.row.at c.points.result.at _ c.in_ok-row.ensures.grown
    c.in_ok-r.ensures.grown c.deref.ensures.value c.in_ok-after.ensures c.in_ok-row.ensures.ok c.points.ensures c.in_ok-r.ensures.ok
