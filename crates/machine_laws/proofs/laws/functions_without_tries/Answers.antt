-- What a run answers.
use Rattle.machine_laws.proofs.Judged.{shows_same}
use Rattle.machine_laws.proofs.laws.functions_without_tries.Goals as goal

pub returns-clause-answers : goal.returns-clause-answers
returns-clause-answers c s x q choice = shows_same s x q choice
