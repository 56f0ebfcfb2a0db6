-- One step after the other.
use Rattle.std.proofs.Common.{List, take_all, subst, arith}
use Rattle.std.proofs.lemmas.List.Elements.{All-more}
use Rattle.sat_base.specs.declared.literal.Lit.{Lit}
use Rattle.sat_base.specs.declared.certificate.Step.{Step}
use Rattle.sat_base.specs.Logic.{LitsBelow}
use Rattle.rup_check.specs.Checked.{step_lits, StepsBelow}
use Rattle.proof_tests.proofs.formulas.steps_below.Goals as goal

pub loop-step-preserved : goal.loop-step-preserved
loop-step-preserved c =
    let P : Step → Type 0 = λ s. LitsBelow c.args.vars (step_lits s) in
    All-more P c.args.steps.now c.loop-step.step-index c.step-item.result c.loop-step-test.true c.loop-step.invariant
    (subst P c.step-item.is
    (subst (λ (ls : List Lit). LitsBelow c.args.vars ls) c.step_lits.ensures (c.are_below.ensures.0 c.if-not-are_below.false)))

pub returns : goal.returns
returns c holds =
    subst (λ (ss : List Step). StepsBelow c.args.vars ss)
    (take_all c.loop-step.step-index c.args.steps.now (omega (arith, c.loop-step-test.false))) c.loop-step.invariant
