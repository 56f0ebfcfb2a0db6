use Rattle.bit_words.proofs.SpellLemmas.{IfOk-more, Difference-sum}
use Rattle.bit_words.proofs.adding.difference_of.Goals as goal

pub returns-clause-ok : goal.returns-clause-ok
returns-clause-ok c =
    IfOk-more _ _ c.sum_of.result c.sum_of.ensures.ok
    (λ x s. Difference-sum _ _ _ _ _ _ _ _ _ c.requires.same s c.deref.ensures.value c.sum_of.ensures.grown c.in_ok-inverse.ensures.ok
    (λ choice v r. c.constant-yes.ensures.value choice v (c.in_ok-inverse.ensures.grown.runs choice v r)))
