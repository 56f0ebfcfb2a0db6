use Rattle.flow_stages.specs.Laws.{seen}
use Rattle.flow_stages.proofs.ByKind.{aside_node}
use Rattle.flow_stages.proofs.laws.asides_end.Goals as goal

pub returns : goal.returns
returns k = λ c nodes count i n here base old new h cut. aside_node c nodes count i n here base (seen old) (seen new) cut h
