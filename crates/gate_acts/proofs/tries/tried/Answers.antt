use Rattle.gate_acts.proofs.Taking.{is_tried}
use Rattle.gate_acts.proofs.tries.tried.Goals as goal

pub returns-clause-ok : goal.returns-clause-ok
returns-clause-ok c =
    is_tried _ _ _ _ c.args.trying.success c.args.trying.failure c.args.had.at c.integer_bits-width.result _ _ _ c.in_ok-word.ensures.grown c.requires.fits c.integer_bits-width.ensures.value
    c.in_ok-yes.ensures c.in_ok-no.ensures c.in_ok-word.ensures.ok
