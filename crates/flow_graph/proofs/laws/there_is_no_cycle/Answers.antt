-- By the order in which nodes are made.
use Rattle.std.proofs.Common.{[]}
use Rattle.sc_world.specs.Layout.{no_layout}
use Rattle.flow_graph.proofs.Walks.{no_cycle}
use Rattle.flow_graph.proofs.laws.there_is_no_cycle.Goals as goal

pub returns : goal.returns
returns c = λ s. no_cycle s no_layout []
