-- What the open literals of the clause say.
use Rattle.std.proofs.Common.{◌<◌}
use Rattle.std.proofs.lemmas.List.Elements.{All-contains}
use Rattle.sat_base.specs.declared.literal.Lit.{Lit}
use Rattle.rup_check.proofs.LookingLemmas.{closed_one, closed_two}
use Rattle.rup_check.proofs.PropagatingLemmas.{extends_refl, still_gone, still_closed, visit_forced, visit_falsified}
use Rattle.rup_check.proofs.visit.visit.Goals as goal

pub has-requires : goal.has-requires
has-requires c =
    All-contains (λ (l : Lit). l.var < c.args.marks.now.vars) c.in-Some.clause.now c.in-One.lit (c.requires c.args.id c.in-Some.clause.now c.in-Some.ensures)
    c.in-One.ensures.0.0

pub mark-requires : goal.mark-requires
mark-requires c =
    All-contains (λ (l : Lit). l.var < c.args.marks.now.vars) c.in-Some.clause.now c.in-One.lit (c.requires c.args.id c.in-Some.clause.now c.in-Some.ensures)
    c.in-One.ensures.0.0

pub returns-in-None : goal.returns-in-None
returns-in-None c = record {
  extends = extends_refl _ c.args.marks.now;
  found = still_gone c.args.store.now c.args.id c.args.marks.now c.in-None.ensures;
}

pub returns-in-Nothing : goal.returns-in-Nothing
returns-in-Nothing c = record {
  extends = extends_refl _ c.args.marks.now;
  found = visit_falsified c.args.store.now c.args.id c.args.marks.now c.in-Some.clause.now c.in-Some.ensures c.in-Nothing.ensures;
}

pub returns-then-has : goal.returns-then-has
returns-then-has c = record {
  extends = extends_refl _ c.args.marks.now;
  found = still_closed c.args.store.now c.args.id c.args.marks.now c.in-Some.clause.now c.in-Some.ensures
      (closed_one c.args.marks.now.lits c.in-Some.clause.now c.in-One.lit c.in-One.ensures (c.has.ensures.0 c.if-has.true));
}

pub returns-in_ok-mark-in-One-clause-extends : goal.returns-in_ok-mark-in-One-clause-extends
returns-in_ok-mark-in-One-clause-extends c =
    visit_forced c.args.store.now c.args.id c.args.marks.now c.mark.new.self c.in-Some.clause.now c.in-One.lit c.in-Some.ensures c.in-One.ensures
    c.in_ok-mark-in-One.ensures.ok

pub returns-in-Two : goal.returns-in-Two
returns-in-Two c = record {
  extends = extends_refl _ c.args.marks.now;
  found = still_closed c.args.store.now c.args.id c.args.marks.now c.in-Some.clause.now c.in-Some.ensures
      (closed_two c.args.marks.now.lits c.in-Some.clause.now c.in-Two.one c.in-Two.other c.in-Two.ensures);
}
