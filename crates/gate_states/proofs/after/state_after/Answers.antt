use Rattle.run_world.specs.Seen as seen
use Rattle.gate_states.proofs.Naming.{is_after}
use Rattle.gate_states.proofs.after.state_after.Goals as goal

pub returns-clause-ok : goal.returns-clause-ok
returns-clause-ok c =
    is_after (seen.env c.args.here.now).source (seen.env c.args.here.now).layout c.args.net.now _ c.args.bit c.in-Some.at c.state_bits.result c.states.result
    c.in_ok-name.name.bits.items _ c.in_ok-state.ensures.grown c.in-Some.ensures.1 c.state_bits.ensures.value c.states.ensures c.in_ok-name.ensures
    c.in_ok-state.ensures.ok
