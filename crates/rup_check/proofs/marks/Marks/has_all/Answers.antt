-- One literal after the other.
use Rattle.std.proofs.Common.{false, refl, arith}
use Rattle.std.specs.List.{Contains}
use Rattle.sat_base.specs.declared.literal.Lit.{Lit}
use Rattle.rup_check.proofs.MarkingLemmas.{none_before, all_more, all_before}
use Rattle.rup_check.proofs.marks.Marks.has_all.Goals as goal

pub has-requires : goal.has-requires
has-requires c = c.requires c.loop-lit.lit-index (record { var = 0; neg = false }) c.loop-lit-test.true

pub loop-lit-init : goal.loop-lit-init
loop-lit-init c = none_before (λ (l : Lit). Contains c.args.self.now.lits l) c.args.lits.now

pub loop-lit-preserved : goal.loop-lit-preserved
loop-lit-preserved c =
    all_more (λ (l : Lit). Contains c.args.self.now.lits l) c.args.lits.now c.loop-lit.lit-index (record { var = 0; neg = false }) c.loop-lit-test.true
    (c.has.ensures.0 c.if-not-has.false) c.loop-lit.invariant

pub returns : goal.returns
returns c = (
  (λ yes. all_before (λ (l : Lit). Contains c.args.self.now.lits l) c.args.lits.now c.loop-lit.lit-index (omega (arith, c.loop-lit-test.false)) c.loop-lit.invariant),
  (λ all. refl),
)
