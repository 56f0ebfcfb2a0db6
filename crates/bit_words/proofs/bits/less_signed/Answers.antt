use Rattle.std.proofs.lemmas.List.{take_rest}
use Rattle.bit_words.proofs.SpellLemmas.{IfOk-more}
use Rattle.bit_words.proofs.MoveLemmas.{Less-signed}
use Rattle.bit_words.proofs.bits.less_signed.Goals as goal

pub returns-clause-ok : goal.returns-clause-ok
returns-clause-ok c =
    IfOk-more _ _ c.less_bit.result c.less_bit.ensures.ok
    (λ x s. Less-signed c.less.new.net c.less_bit.new.net c.args.a.now c.args.b.now _ _ _ _ _ c.requires.some c.requires.same (take_rest c.args.a.now 1) (take_rest c.args.b.now 1) c.less_bit.ensures.grown
    c.in_ok-below.ensures.ok.value s)
