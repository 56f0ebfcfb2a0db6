use Rattle.std.proofs.Common.{take}
use Rattle.bit_net.specs.Runs.{Grown}
use Rattle.run_world.specs.Seen as seen
use Rattle.gate_states.specs.States.{HasStates}
use Rattle.gate_states.proofs.before.state_of.Given as goal

-- the state of the location of the pair whose guard holds, of the pairs so far
abbrev pub invariant-loop-pair : goal.invariant-loop-pair
invariant-loop-pair l =
    record {
      grown : Grown l.fn.net l.net;
      so_far : HasStates (seen.env l.here).layout l.net l.store.locations.items (take l.pair-index l.pairs) l.state.bits.items;
    }
