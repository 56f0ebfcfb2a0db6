-- One literal after the other.
use Rattle.std.proofs.Common.{◌+◌, ◌<◌, false, take, sym, subst, ◌∙◌, arith}
use Rattle.std.specs.List.{Contains}
use Rattle.std.proofs.lemmas.Bool.{false≢true}
use Rattle.sat_base.specs.declared.literal.Lit.{Lit}
use Rattle.rup_check.specs.declared.look.OpenLits.{OpenLits}
use Rattle.rup_check.specs.Looking.{AreOpen}
use Rattle.rup_check.proofs.LookingLemmas.{open_none, skip_more, open_more, two_all, open_all}
use Rattle.rup_check.proofs.look.open_lits.Goals as goal

pub has-requires : goal.has-requires
has-requires c =
    subst (λ (l : Lit). l.var < c.args.marks.now.vars) (sym c.negated.ensures)
    (c.requires c.loop-lit.lit-index (record { var = 0; neg = false }) c.loop-lit-test.true)

pub loop-lit-init : goal.loop-lit-init
loop-lit-init c = open_none c.args.marks.now.lits c.args.clause.now

pub loop-lit-preserved-then-has : goal.loop-lit-preserved-then-has
loop-lit-preserved-then-has c =
    skip_more c.args.marks.now.lits c.args.clause.now c.loop-lit.lit-index (record { var = 0; neg = false }) c.loop-lit.found c.loop-lit-test.true
    (subst (λ (l : Lit). Contains c.args.marks.now.lits l) c.negated.ensures (c.has.ensures.0 c.if-has.true)) c.loop-lit.invariant

pub loop-lit-preserved : goal.loop-lit-preserved
loop-lit-preserved c =
    open_more c.args.marks.now.lits c.args.clause.now c.loop-lit.lit-index (record { var = 0; neg = false }) c.loop-lit.found c.with_open-found.result
    c.loop-lit-test.true c.with_open-found.ensures (λ h. false≢true (sym c.if-has.false ∙ c.has.ensures.1 (subst (λ (l : Lit). Contains c.args.marks.now.lits l) (sym c.negated.ensures) h))) c.loop-lit.invariant

pub returns-in-Two : goal.returns-in-Two
returns-in-Two c =
    two_all c.args.marks.now.lits c.args.clause.now (c.loop-lit.lit-index + 1) c.in-Two.one c.in-Two.other
    (subst (λ (o : OpenLits). AreOpen c.args.marks.now.lits (take (c.loop-lit.lit-index + 1) c.args.clause.now) o) c.in-Two.is
    (open_more c.args.marks.now.lits c.args.clause.now c.loop-lit.lit-index (record { var = 0; neg = false }) c.loop-lit.found c.with_open-found.result
    c.loop-lit-test.true c.with_open-found.ensures (λ h. false≢true (sym c.if-has.false ∙ c.has.ensures.1 (subst (λ (l : Lit). Contains c.args.marks.now.lits l) (sym c.negated.ensures) h))) c.loop-lit.invariant))

pub returns : goal.returns
returns c = open_all c.args.marks.now.lits c.args.clause.now c.loop-lit.lit-index c.loop-lit.found (omega (arith, c.loop-lit-test.false)) c.loop-lit.invariant
