use Rattle.std.proofs.Common.{◌<◌, length, ap, ◌∙◌, add-one, arith, length-set}
use Rattle.flow_graph.specs.Unrolled.{turned}
use Rattle.sc_flow.specs.Seen.{node}
use Rattle.sc_flow.proofs.Nodes.{turn_step, all_turned}
use Rattle.sc_flow.proofs.flow.turn.Goals as goal

pub loop-k-preserved : goal.loop-k-preserved
loop-k-preserved c =
    let low : c.loop-k.k < length c.args.nodes.now = omega arith in
    record {
      turned = λ structs. rw add-one (turn_step (node structs) (turned c.args.entry) c.loop-k.nodes c.args.nodes.now c.loop-k.k c.turned.result c.index-nodes-k.result low c.loop-k.invariant.same (c.loop-k.invariant.turned structs) (c.turned.ensures structs ∙ ap (λ n. turned c.args.entry (node structs n)) c.index-nodes-k.is));
      same = length-set c.loop-k.nodes c.loop-k.k c.turned.result ∙ c.loop-k.invariant.same;
    }

pub returns : goal.returns
returns c = λ structs. all_turned (node structs) (turned c.args.entry) c.loop-k.nodes c.args.nodes.now c.loop-k.k (omega arith) (c.loop-k.invariant.turned structs)
