use Rattle.flow_stages.specs.Laws.{seen}
use Rattle.flow_stages.proofs.ByKind.{exit_node}
use Rattle.flow_stages.proofs.laws.exits_end.Goals as goal

pub returns : goal.returns
returns k = λ c nodes count i n here base old new h cut. exit_node c nodes count i n here base (seen old) (seen new) cut h
