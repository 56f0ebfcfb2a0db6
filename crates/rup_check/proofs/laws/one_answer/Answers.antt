-- The law itself.
use Rattle.rup_check.proofs.AlikeLemmas.{one_refusal}
use Rattle.rup_check.proofs.laws.one_answer.Goals as goal

pub returns : goal.returns
returns c = one_refusal
