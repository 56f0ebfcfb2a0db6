-- One input more.
use Rattle.gate_questions.proofs.Holding.{no_inputs, one_input_more}
use Rattle.gate_questions.proofs.first_choice.input_lits.Goals as goal

pub loop-k-init : goal.loop-k-init
loop-k-init c = no_inputs c.args.loader.now c.args.never _ c.new-bits.ensures.items

pub loop-k-preserved : goal.loop-k-preserved
loop-k-preserved c = one_input_more c.args.loader.now c.args.never _ _ c.loop-k.k c.input_lit.result c.in_ok-push.ensures.items c.loop-k.invariant c.input_lit.ensures
