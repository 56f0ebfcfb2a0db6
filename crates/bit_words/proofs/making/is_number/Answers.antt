use Rattle.std.proofs.Common.{true≢false, refl, sym}
use Rattle.bit_words.proofs.making.is_number.Goals as goal
use Rattle.bit_words.proofs.MakeLemmas.{spelt, unspelt}

pub returns-then-not-fits-clause-ok : goal.returns-then-not-fits-clause-ok
returns-then-not-fits-clause-ok c = unspelt c.args.net.now c.constant.result.at c.args.a.now c.args.n (λ h. true≢false (sym (c.if-not-fits.ensures.1 h))) c.constant.ensures

pub returns-clause-ok : goal.returns-clause-ok
returns-clause-ok c =
    spelt c.equal.new.net c.in_ok-same.same.at c.args.a.now c.in_ok-bits.bits.items c.args.net.now c.args.n c.in_ok-same.ensures.grown c.in_ok-bits.ensures (c.if-not-fits.ensures.0 refl)
    (rw (← c.deref.ensures.value) c.in_ok-same.ensures.ok)
