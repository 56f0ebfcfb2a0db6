use Rattle.std.proofs.Common.{subst}
use Rattle.run_world.specs.Seen as seen
use Rattle.gate_states.specs.States.{HasStates}
use Rattle.gate_states.proofs.Reading.{is_before}
use Rattle.gate_states.proofs.before.state_before.Goals as goal

pub returns-clause-ok : goal.returns-clause-ok
returns-clause-ok c =
    is_before (seen.env c.args.here.now).layout _ c.args.store.now.locations.items c.args.at.now.pairs.items _
    (subst (λ ps. HasStates (seen.env c.args.here.now).layout c.state_of.new.net c.args.store.now.locations.items ps c.in_ok-state.state.bits.items)
    c.as_slice.ensures c.in_ok-state.ensures.ok)
