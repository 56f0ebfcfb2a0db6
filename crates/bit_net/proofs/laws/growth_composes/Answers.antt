use Rattle.bit_net.proofs.laws.growth_composes.Goals as goal
use Rattle.bit_net.proofs.Growth.{Grown-refl, Grown-trans}

pub returns-clause-same : goal.returns-clause-same
returns-clause-same c = Grown-refl

pub returns-clause-composed : goal.returns-clause-composed
returns-clause-composed c = Grown-trans
