use Rattle.bit_net.specs.Runs.{Grown}
use Rattle.flow_turns.specs.Before.{AreGates, IsBefore}
use Rattle.flow_gates.specs.Graph.{nodes_of}
use Rattle.flow_whole.proofs.whole.encode_ended.Given as goal

-- the gates are before the node that comes next
abbrev pub invariant-loop-at : goal.invariant-loop-at
invariant-loop-at g l = record {
  grown : Grown l.fn.net l.net;
  gates : AreGates l.net l.before;
  before : IsBefore (g.S.Steps.source l.graph.steps.now) (g.S.Steps.layout l.graph.steps.now) (nodes_of (g.S.Steps.source l.graph.steps.now) l.graph.flow.now) l.at l.net l.before;
}
