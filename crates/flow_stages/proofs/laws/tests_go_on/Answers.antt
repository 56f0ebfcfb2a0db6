use Rattle.flow_stages.specs.Laws.{seen}
use Rattle.flow_stages.proofs.ByKind.{branch_node}
use Rattle.flow_stages.proofs.laws.tests_go_on.Goals as goal

pub returns : goal.returns
returns k = λ c nodes count i n here base old new h cut. branch_node c nodes count i n here base (seen old) (seen new) cut h
