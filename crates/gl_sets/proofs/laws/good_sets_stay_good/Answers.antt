use Rattle.gl_sets.proofs.JoinLemmas.{IsGood-grown}
use Rattle.gl_sets.proofs.laws.good_sets_stay_good.Goals as goal

pub returns : goal.returns
returns c = IsGood-grown
