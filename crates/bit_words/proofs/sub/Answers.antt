use Rattle.bit_words.proofs.SpellLemmas.{Spells-difference}
use Rattle.bit_words.proofs.sub.Goals as goal

pub returns-clause-ok : goal.returns-clause-ok
returns-clause-ok c = Spells-difference _ _ _ _ _ _ _ c.requires.same c.in_ok-difference.ensures.ok c.deref.ensures.value c.deref-2.ensures.value
