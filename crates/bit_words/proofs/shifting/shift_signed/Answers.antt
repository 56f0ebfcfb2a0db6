use Rattle.bit_words.specs.Number.{number}
use Rattle.bit_words.proofs.SpellLemmas.{IfOk-more}
use Rattle.bit_words.proofs.MoveLemmas.{Shift-signed}
use Rattle.bit_words.proofs.shifting.shift_signed.Goals as goal

pub returns-clause-ok : goal.returns-clause-ok
returns-clause-ok c =
    IfOk-more _ _ c.flipped-2.result c.flipped-2.ensures.ok
    (λ x s. Shift-signed c.flipped.new.net c.shift.new.net c.flipped-2.new.net c.args.a.now _ _ _ _ _ _ (λ v. number v c.args.count.now) c.requires.some
    c.in_ok-shifted.ensures.grown c.flipped-2.ensures.grown c.deref.ensures.value c.deref-2.ensures.value c.in_ok-from_zero.ensures.ok c.in_ok-shifted.ensures.ok s)
