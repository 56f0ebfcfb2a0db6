use Rattle.std.proofs.Common.{◌≡◌, arith, length, ◌∙◌, subst, sym, ap, ◌<◌}
use Rattle.bit_net.specs.Circuit.{input_count, IsCircuit}
use Rattle.bit_net.specs.Value.{bit_at}
use Rattle.bit_net.proofs.nodes.Net.values_into.Goals as goal
use Rattle.bit_net.proofs.BuildLemmas.{values-none, values-more, reads_written}

pub loop-g-init : goal.loop-g-init
loop-g-init c = values-none (bit_at c.args.choice.now)

nodes_are : (c : goal.In-loop-g) → c.as_slice-nodes.result.now ≡ c.args.self.now
nodes_are c = c.as_slice-nodes.ensures.value ∙ c.self.view_is

circuit : (c : goal.In-loop-g) → IsCircuit c.as_slice-nodes.result.now
circuit c = subst IsCircuit (sym c.as_slice-nodes.ensures.value) c.self.invariant

inputs : (c : goal.In-loop-g) → length c.args.choice.now ≡ input_count c.as_slice-nodes.result.now
inputs c = c.requires.inputs ∙ ap input_count (sym (nodes_are c))

room : (c : goal.In-loop-g) → c.loop-g.g < length c.loop-g.room
room c = omega (arith, ap length (nodes_are c))

pub value_of-requires : goal.value_of-requires
value_of-requires c = reads_written _ c.args.choice.now c.loop-g.room c.loop-g.g _ (circuit c) (inputs c) c.loop-g-test.true (room c)

pub loop-g-preserved : goal.loop-g-preserved
loop-g-preserved c =
    let nodes = c.as_slice-nodes.ensures.value ∙ c.self.view_is in
    rw c.value_of.ensures (values-more (bit_at c.args.choice.now) c.as_slice-nodes.result.now c.loop-g.room c.loop-g.g _ c.loop-g-test.true (omega (arith, ap length nodes)) c.loop-g.invariant)
