use Rattle.bit_words.proofs.SpellLemmas.{Spells-negated}
use Rattle.bit_words.proofs.adding.negated.Goals as goal

pub returns-clause-ok : goal.returns-clause-ok
returns-clause-ok c =
    Spells-negated _ _ _ _ _ _ _ _ _ _ _ _ c.in_ok-sum.ensures.ok c.deref.ensures.value c.deref-2.ensures.value c.in_ok-sum.ensures.grown c.in_ok-turned.ensures.grown
    c.in_ok-turned.ensures.ok c.in_ok-none.ensures c.constant.ensures.value
