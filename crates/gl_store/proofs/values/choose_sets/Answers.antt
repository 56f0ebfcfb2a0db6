use Rattle.std.proofs.Common.{refl}
use Rattle.gl_store.proofs.ValueLemmas.{choice_sets}
use Rattle.gl_store.proofs.values.choose_sets.Goals as goal

pub returns-clause-ok : goal.returns-clause-ok
returns-clause-ok c = (refl, choice_sets _ c.args.c.at c.args.a.now c.args.b.now c.in_ok-set.set c.in_ok-set.ensures.ok)
