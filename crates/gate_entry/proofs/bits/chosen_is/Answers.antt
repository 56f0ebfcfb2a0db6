use Rattle.gate_entry.proofs.Choosing.{chosen_number_is}
use Rattle.gate_entry.proofs.bits.chosen_is.Goals as goal

pub returns-clause-ok : goal.returns-clause-ok
returns-clause-ok c =
    chosen_number_is _ _ _ c.args.at c.args.width c.args.n _ _ c.in_ok-same.ensures.grown c.in_ok-word.ensures (rw (← c.deref.ensures.value) c.in_ok-same.ensures.ok)
