-- The learnt clause follows from the given ones.
use Rattle.sat_cdcl.proofs.ResolventLemmas.{match_bool}
use Rattle.sat_cdcl.proofs.conflict.learn_and_jump.Goals as goal

pub returns-clause-jumped : goal.returns-clause-jumped
returns-clause-jumped c = match_bool c.jump.result _ _ _ (λ rises assumed. rises c.args.clauses.now.given assumed c.requires.entailed) c.jump.ensures
