-- One pass after the other.
use Rattle.std.proofs.Common.{sym, subst}
use Rattle.rup_check.specs.declared.closing.Pass.{Pass}
use Rattle.rup_check.specs.Stored.{present, StoredBelow}
use Rattle.rup_check.specs.Propagating.{IsPass}
use Rattle.rup_check.proofs.PropagatingLemmas.{extends_refl, extends_trans}
use Rattle.rup_check.proofs.closing.close.Goals as goal

pub pass_over-requires : goal.pass_over-requires
pass_over-requires c = subst (λ n. StoredBelow n c.args.store.now) (sym c.passes.invariant.vars) c.requires

pub passes-init : goal.passes-init
passes-init c = extends_refl _ c.args.marks.now

pub passes-preserved : goal.passes-preserved
passes-preserved c = extends_trans _ _ _ _ c.passes.invariant c.in_ok-pass_over.ensures.extends

pub passes-smaller : goal.passes-smaller
passes-smaller c =
    subst (λ (p : Pass). IsPass (present c.args.store.now) c.passes.marks c.pass_over.new.marks p) c.in-Changed.is c.in_ok-pass_over.ensures.found

pub returns-in_err-pass_over-clause-extends : goal.returns-in_err-pass_over-clause-extends
returns-in_err-pass_over-clause-extends c = extends_trans _ _ _ _ c.passes.invariant c.in_err-pass_over.ensures.extends

pub returns-in-Conflict : goal.returns-in-Conflict
returns-in-Conflict c = record {
  extends = extends_trans _ _ _ _ c.passes.invariant c.in_ok-pass_over.ensures.extends;
  found = subst (λ (p : Pass). IsPass (present c.args.store.now) c.passes.marks c.pass_over.new.marks p) c.in-Conflict.is c.in_ok-pass_over.ensures.found;
}

pub returns-in-Unchanged : goal.returns-in-Unchanged
returns-in-Unchanged c = record {
  extends = extends_trans _ _ _ _ c.passes.invariant c.in_ok-pass_over.ensures.extends;
  found = subst (λ (p : Pass). IsPass (present c.args.store.now) c.passes.marks c.pass_over.new.marks p) c.in-Unchanged.is c.in_ok-pass_over.ensures.found;
}
