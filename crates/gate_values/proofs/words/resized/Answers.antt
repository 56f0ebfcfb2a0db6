use Rattle.gate_values.proofs.Ones.{resized_word}
use Rattle.gate_values.proofs.words.resized.Goals as goal

pub returns-clause-ok : goal.returns-clause-ok
returns-clause-ok c = resized_word _ c.args.signed c.args.bits c.args.a.now c.in_ok-made.made c.in_ok-made.ensures.ok
