use Rattle.bit_words.proofs.SpellLemmas.{IfOk-more}
use Rattle.bit_words.proofs.MoveLemmas.{Quotient-signed}
use Rattle.bit_words.proofs.dividing.quotient_signed.Goals as goal

pub returns-clause-ok : goal.returns-clause-ok
returns-clause-ok c =
    IfOk-more _ _ c.negated.result c.negated.ensures.ok
    (λ x s. Quotient-signed c.xor.new.self c.divide_magnitudes.new.net c.negated.new.net c.args.a.now c.args.b.now _ _ _ _ _ _ c.requires.some c.requires.same c.in_ok-division.ensures.ok c.deref.ensures.value
    c.in_ok-division.ensures.grown c.negated.ensures.grown c.in_ok-minus.ensures.ok.value s)
