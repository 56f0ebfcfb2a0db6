use Rattle.fn_facts.proofs.Given.{integer_shown}
use Rattle.fn_facts.proofs.entry.is_not_zero.Goals as goal

pub returns-clause-ok : goal.returns-clause-ok
returns-clause-ok c =
    integer_shown _ _ _ _ c.args.bit c.args.own c.integer_bits.result c.in_ok-zero.zero.at _ c.requires.pointer c.requires.integer c.integer_bits.ensures.value
    c.in_ok-some.ensures.grown c.in_ok-zero.ensures.ok c.in_ok-some.ensures.ok
