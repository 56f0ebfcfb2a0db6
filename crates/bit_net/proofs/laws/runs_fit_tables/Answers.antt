use Rattle.bit_net.proofs.laws.runs_fit_tables.Goals as goal
use Rattle.bit_net.proofs.LawLemmas.{Fits-Runs, Runs-Fits}

pub returns-clause-fits : goal.returns-clause-fits
returns-clause-fits c = Fits-Runs

pub returns-clause-runs : goal.returns-clause-runs
returns-clause-runs c = Runs-Fits
