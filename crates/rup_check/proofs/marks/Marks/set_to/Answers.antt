-- One literal after the other.
use Rattle.std.proofs.Common.{false, List, sym, subst, ap, ◌∙◌, arith}
use Rattle.std.specs.List.{Contains}
use Rattle.sat_base.specs.declared.literal.Lit.{Lit}
use Rattle.rup_check.specs.Marking.{MarksState}
use Rattle.rup_check.proofs.MarkingLemmas.{setting_none, setting_more, setting_all, map-same}
use Rattle.rup_check.proofs.marks.Marks.set_to.Goals as goal

pub mark-requires : goal.mark-requires
mark-requires c =
    let low = c.requires c.loop-lit.lit-index (record { var = 0; neg = false }) c.loop-lit-test.true in
    let same = c.loop-lit.invariant.vars_same in
    omega (arith, low, same)

pub loop-lit-init : goal.loop-lit-init
loop-lit-init c = setting_none (λ (q : Lit). q) c.clear.new.self c.args.self.now.vars c.clear.ensures.vars c.clear.ensures.empty

pub loop-lit-preserved : goal.loop-lit-preserved
loop-lit-preserved c =
    setting_more (λ (q : Lit). q) c.loop-lit.self c.mark.new.self c.args.self.now.vars c.args.lits.now c.loop-lit.lit-index (record { var = 0; neg = false })
    c.loop-lit-test.true c.loop-lit.invariant c.in_ok-mark.ensures.ok

pub returns-in_err-mark-clause-vars : goal.returns-in_err-mark-clause-vars
returns-in_err-mark-clause-vars c = ap (λ (m : MarksState). m.vars) c.in_err-mark.ensures.err ∙ c.loop-lit.invariant.vars_same

pub returns : goal.returns
returns c =
    let all = setting_all (λ (q : Lit). q) c.loop-lit.self c.args.self.now.vars c.args.lits.now c.loop-lit.lit-index (omega (arith, c.loop-lit-test.false))
    c.loop-lit.invariant in
    record {
      vars = all.vars_same;
      set = λ l. (
        (λ h. subst (λ (ls : List Lit). Contains ls l) (map-same c.args.lits.now) (all.forth l h)),
        (λ h. all.back l (subst (λ (ls : List Lit). Contains ls l) (sym (map-same c.args.lits.now)) h)),
      );
    }
