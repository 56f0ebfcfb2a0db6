use Rattle.gate_objects.proofs.Giving.{given_number}
use Rattle.gate_objects.proofs.given.given_number.Goals as goal

pub returns-clause-ok : goal.returns-clause-ok
returns-clause-ok c =
    given_number _ _ _ c.args.ends.now _ _ _ c.integer_bits.result c.in_ok-word.word c.requires.integer c.requires.store c.integer_bits.ensures.value c.in_ok-word.ensures
