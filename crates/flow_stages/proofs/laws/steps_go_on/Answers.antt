use Rattle.std.proofs.Common.{◌≡◌, true}
use Rattle.flow_stages.specs.Laws.{seen}
use Rattle.flow_stages.proofs.ByKind.{step}
use Rattle.flow_stages.proofs.laws.steps_go_on.Goals as goal

pub returns : goal.returns
returns k = λ c nodes count i n next m keeps here on live failed base old new good h to s cut.
    step c nodes count i n next m keeps here on live failed base (seen old) (seen new) (λ x. good x ≡ true) cut h to s
