use Rattle.fn_facts.proofs.States.{bits_more}
use Rattle.fn_facts.proofs.numbers.push_bit.Goals as goal

pub returns-clause-ok : goal.returns-clause-ok
returns-clause-ok c = λ y ts has h.
    bits_more _ _ _ c.args.k y ts _ _ c.in_ok-bit.bit c.requires.few has c.in_ok-bit.ensures.grown c.in_ok-push.ensures.items c.in_ok-bit.ensures.ok h
