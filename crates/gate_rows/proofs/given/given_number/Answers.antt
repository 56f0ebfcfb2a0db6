use Rattle.gate_rows.proofs.Giving.{is_number_given}
use Rattle.gate_rows.proofs.given.given_number.Goals as goal

pub returns-clause-ok : goal.returns-clause-ok
returns-clause-ok c =
    is_number_given _ _ c.args.net.now _ _ _ c.integer_bits.result c.in_ok-word.word c.in_ok-zero.zero c.requires.integer c.integer_bits.ensures.value
    c.in_ok-zero.ensures.grown c.in_ok-word.ensures c.in_ok-zero.ensures.ok
