use Rattle.bit_net.proofs.Growth.{Grown-refl, Grown-trans}
use Rattle.proof_tests.proofs.first_choices.draw_all.Goals as goal

pub loop-gate-init : goal.loop-gate-init
loop-gate-init c = Grown-refl _

pub loop-gate-preserved : goal.loop-gate-preserved
loop-gate-preserved c = Grown-trans _ _ _ c.loop-gate.invariant c.draw.ensures

pub returns-in_err-draw : goal.returns-in_err-draw
returns-in_err-draw c = Grown-trans _ _ _ c.loop-gate.invariant c.draw.ensures
