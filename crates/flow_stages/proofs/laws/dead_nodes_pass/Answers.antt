use Rattle.flow_stages.specs.Laws.{seen}
use Rattle.flow_stages.proofs.ByKind.{dead_node}
use Rattle.flow_stages.proofs.laws.dead_nodes_pass.Goals as goal

pub returns : goal.returns
returns k = λ c nodes count i n here base old new h cut. dead_node c nodes count i n here base (seen old) (seen new) cut h
