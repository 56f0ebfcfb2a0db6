-- Propagation with watches, and then the passes.
use Rattle.std.proofs.Common.{Bool, sym, subst, refl, ◌∙◌}
use Rattle.rup_check.specs.Stored.{present, StoredBelow}
use Rattle.rup_check.specs.Propagating.{IsPropagated}
use Rattle.rup_check.proofs.PropagatingLemmas.{extends_trans, rup_found, rup_by}
use Rattle.rup_check.proofs.rup.is_rup.Goals as goal

pub propagate-requires : goal.propagate-requires
propagate-requires c = subst (λ n. StoredBelow n c.args.store.now) (sym c.in_ok-set_to_negations.ensures.vars) c.requires.stored

pub close-requires : goal.close-requires
close-requires c = subst (λ n. StoredBelow n c.args.store.now) (sym (c.in_ok-propagate.ensures.extends.vars ∙ c.in_ok-set_to_negations.ensures.vars)) c.requires.stored

pub returns-then-branch-clause-rup : goal.returns-then-branch-clause-rup
returns-then-branch-clause-rup c = (
  (λ yes. rup_found (present c.args.store.now) c.args.clause.now c.set_to_negations.new.self c.propagate.new.marks
      (λ l. (c.in_ok-set_to_negations.ensures.set l).0) c.in_ok-propagate.ensures.extends
      (subst (λ (b : Bool). IsPropagated (present c.args.store.now) c.propagate.new.marks.lits b) c.if-branch.true c.in_ok-propagate.ensures.conflict)),
  (λ rup. refl),
)

pub returns-clause-rup : goal.returns-clause-rup
returns-clause-rup c =
    rup_by (present c.args.store.now) c.args.clause.now c.set_to_negations.new.self c.close.new.marks c.close.result
    (λ l. (c.in_ok-set_to_negations.ensures.set l).0) (λ l. (c.in_ok-set_to_negations.ensures.set l).1)
    (extends_trans _ _ _ _ c.in_ok-propagate.ensures.extends c.close.ensures.extends) c.close.ensures.found
