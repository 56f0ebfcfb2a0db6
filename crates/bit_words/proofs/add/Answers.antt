use Rattle.bit_words.proofs.SpellLemmas.{Spells-sum}
use Rattle.bit_words.proofs.add.Goals as goal

pub returns-clause-ok : goal.returns-clause-ok
returns-clause-ok c = Spells-sum _ _ _ _ _ _ _ _ _ c.in_ok-sum.ensures.ok c.deref.ensures.value c.deref-2.ensures.value c.in_ok-sum.ensures.grown c.constant-none.ensures.value
