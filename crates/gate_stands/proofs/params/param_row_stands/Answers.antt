use Rattle.run_world.specs.Seen as seen
use Rattle.gate_stands.proofs.Arguing.{param_row_named}
use Rattle.gate_stands.proofs.params.param_row_stands.Goals as goal

pub returns-clause-ok : goal.returns-clause-ok
returns-clause-ok c =
    param_row_named (seen.env c.args.here.now).layout c.args.net.now c.param_row.new.net c.args.given.now c.in_ok-after.after.bits.items _ c.args.outcome
    c.args.bit c.args.rows.now _ c.in_ok-r.ensures.grown c.deref.ensures.value c.in_ok-after.ensures c.in_ok-r.ensures.ok
