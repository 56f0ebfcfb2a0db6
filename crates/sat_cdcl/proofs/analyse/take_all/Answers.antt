-- One literal more, or the one that is left out.
use Rattle.std.proofs.Common.{◌≡◌, ◌+◌, rules, false, Some, get_or, take, sym, subst}
use Rattle.sat_base.specs.declared.literal.Lit.{Lit}
use Rattle.sat_cdcl.specs.Resolvents.{TakesAll}
use Rattle.sat_cdcl.proofs.ResolventLemmas.{all_taken, all_but}
use Rattle.sat_cdcl.proofs.analyse.take_all.Goals as goal
use Rattle.sat_cdcl.proofs.analyse.take_all.Goals.{then-ne+in_ok-take_one, else-ne}

pub loop-lit-preserved : goal.loop-lit-preserved
loop-lit-preserved c =
    elim c.if-ne.branch [
      | then-ne+in_ok-take_one w ↦
          subst (λ new. TakesAll c.args.resolvent.now new (take (c.loop-lit.lit-index + 1) c.args.clause.now) c.args.but) (sym w.resolvent-is)
          (all_taken c.args.resolvent.now c.loop-lit.resolvent w.take_one.new.resolvent c.args.clause.now c.args.but c.loop-lit.lit-index _ c.loop-lit-test.true
          c.loop-lit.invariant w.in_ok-take_one.ensures)
      | else-ne w ↦
          let d : Lit = record { var = 0; neg = false } in
          let out : c.args.but ≡ Some (get_or c.args.clause.now c.loop-lit.lit-index d) = search rules in
          subst (λ new. TakesAll c.args.resolvent.now new (take (c.loop-lit.lit-index + 1) c.args.clause.now) c.args.but) (sym w.resolvent-is)
          (all_but c.args.resolvent.now c.loop-lit.resolvent c.args.clause.now c.args.but c.loop-lit.lit-index d c.loop-lit-test.true c.loop-lit.invariant out)
    ]
