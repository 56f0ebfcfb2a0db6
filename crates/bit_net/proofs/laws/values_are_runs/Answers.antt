use Rattle.bit_net.proofs.laws.values_are_runs.Goals as goal
use Rattle.bit_net.proofs.LawLemmas.{value-Grown}

pub returns-clause-grown : goal.returns-clause-grown
returns-clause-grown c = value-Grown
