-- One clause after the other.
use Rattle.std.proofs.Common.{◌+◌, sym, subst, arith, rules}
use Rattle.rup_check.specs.Stored.{StoredBelow}
use Rattle.rup_check.proofs.PropagatingLemmas.{IsSoFar, extends_refl, extends_trans, so_far_none, so_far_more, so_far_all, so_far_conflict}
use Rattle.rup_check.proofs.closing.pass_over.Goals as goal

pub visit-requires : goal.visit-requires
visit-requires c = subst (λ n. StoredBelow n c.args.store.now) (sym c.loop-id.invariant.extends.vars) c.requires

pub loop-id-init : goal.loop-id-init
loop-id-init c = record { extends = extends_refl _ c.args.marks.now; so_far = so_far_none c.args.store.now c.args.marks.now }

pub returns-in_err-here-clause-extends : goal.returns-in_err-here-clause-extends
returns-in_err-here-clause-extends c = extends_trans _ _ _ _ c.loop-id.invariant.extends c.in_err-here.ensures.extends

pub returns-then-eq : goal.returns-then-eq
returns-then-eq c = record {
  extends = extends_trans _ _ _ _ c.loop-id.invariant.extends c.in_ok-here.ensures.extends;
  found = so_far_conflict c.args.store.now c.args.marks.now c.visit.new.marks c.join-found.result (c.loop-id.id + 1) (search rules)
      (subst (λ p. IsSoFar c.args.store.now c.args.marks.now c.visit.new.marks p (c.loop-id.id + 1)) (sym c.join-found.ensures)
      (so_far_more c.args.store.now c.args.marks.now c.loop-id.marks c.visit.new.marks c.loop-id.found c.in_ok-here.here c.loop-id.id
      c.loop-id.invariant.extends c.loop-id.invariant.so_far c.in_ok-here.ensures.found));
}

pub loop-id-preserved : goal.loop-id-preserved
loop-id-preserved c = record {
  extends = extends_trans _ _ _ _ c.loop-id.invariant.extends c.in_ok-here.ensures.extends;
  so_far = subst (λ p. IsSoFar c.args.store.now c.args.marks.now c.visit.new.marks p (c.loop-id.id + 1)) (sym c.join-found.ensures)
      (so_far_more c.args.store.now c.args.marks.now c.loop-id.marks c.visit.new.marks c.loop-id.found c.in_ok-here.here c.loop-id.id
      c.loop-id.invariant.extends c.loop-id.invariant.so_far c.in_ok-here.ensures.found);
}

pub returns : goal.returns
returns c = record {
  extends = c.loop-id.invariant.extends;
  found = let over = c.loop-id-test.false in let last = c.count-id-end.ensures in
      so_far_all c.args.store.now c.args.marks.now c.loop-id.marks c.loop-id.found c.loop-id.id (omega (arith, over, last)) c.loop-id.invariant.so_far;
}
