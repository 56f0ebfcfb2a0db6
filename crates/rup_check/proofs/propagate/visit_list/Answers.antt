-- Each entry of the list in turn.
use Rattle.std.proofs.Common.{sym, subst}
use Rattle.rup_check.specs.Stored.{StoredBelow}
use Rattle.rup_check.proofs.PropagatingLemmas.{extends_refl, extends_trans}
use Rattle.rup_check.proofs.propagate.visit_list.Goals as goal

pub visit_entry-requires : goal.visit_entry-requires
visit_entry-requires c = subst (λ n. StoredBelow n c.args.store.now) (sym c.loop-entry.invariant.vars) c.requires

pub loop-entry-init : goal.loop-entry-init
loop-entry-init c = extends_refl _ c.args.marks.now

pub returns-in_err-visit_entry-clause-extends : goal.returns-in_err-visit_entry-clause-extends
returns-in_err-visit_entry-clause-extends c = extends_trans _ _ _ _ c.loop-entry.invariant c.in_err-visit_entry.ensures.extends

pub returns-then-branch-clause-extends : goal.returns-then-branch-clause-extends
returns-then-branch-clause-extends c = extends_trans _ _ _ _ c.loop-entry.invariant c.in_ok-visit_entry.ensures.extends

pub loop-entry-preserved : goal.loop-entry-preserved
loop-entry-preserved c = extends_trans _ _ _ _ c.loop-entry.invariant c.in_ok-visit_entry.ensures.extends
