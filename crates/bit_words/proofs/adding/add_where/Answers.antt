use Rattle.bit_words.proofs.SpellLemmas.{Spells-sum_where}
use Rattle.bit_words.proofs.adding.add_where.Goals as goal

pub returns-clause-ok : goal.returns-clause-ok
returns-clause-ok c =
    Spells-sum_where _ _ _ _ _ _ _ _ _ _ _ _ _ c.requires.same c.in_ok-sum.ensures.ok c.deref-2.ensures.value c.deref.ensures.value c.in_ok-sum.ensures.grown c.in_ok-counted.ensures.grown
    c.in_ok-counted.ensures.ok c.in_ok-none.ensures c.constant-no.ensures.value
