use Rattle.std.proofs.Common.{ap, subst, arith}
use Rattle.bit_net.proofs.Growth.{Grown-refl, Grown-trans}
use Rattle.gate_copies.specs.Readings.{guarded_top}
use Rattle.flow_fills.specs.Merged.{IsOneOf, vals_at}
use Rattle.flow_fills.proofs.Merging.{vals_below, merged_none, merged_step, merged_whole}
use Rattle.flow_fills.proofs.readings.merged.Goals as goal

pub loop-number-init : goal.loop-number-init
loop-number-init c = record { grown = Grown-refl _; so_far = merged_none _ _ _ _ _ c.new-made.ensures.items }

pub one_of-requires-clause-new : goal.one_of-requires-clause-new
one_of-requires-clause-new c =
    omega (arith, ap guarded_top c.vals_at.ensures, vals_below c.args.new.now c.loop-number.number, c.requires.new, c.loop-number.invariant.grown.longer)

pub one_of-requires-clause-old : goal.one_of-requires-clause-old
one_of-requires-clause-old c =
    omega (arith, ap guarded_top c.vals_at-in-loop-number.ensures, vals_below c.args.old.now c.loop-number.number, c.requires.old, c.loop-number.invariant.grown.longer)

pub loop-number-preserved : goal.loop-number-preserved
loop-number-preserved c =
    record {
      grown = Grown-trans _ _ _ c.loop-number.invariant.grown c.in_ok-reading.ensures.grown;
      so_far =
          merged_step _ _ c.args.when.at c.args.new.now c.args.old.now c.loop-number.made.items _ c.loop-number.number c.in_ok-reading.reading c.in_ok-reading.ensures.grown
          (subst (λ xs. IsOneOf c.one_of.new.net c.args.when.at xs (vals_at c.args.old.now c.loop-number.number) c.in_ok-reading.reading.vals.items) c.vals_at.ensures
          (subst (λ ys. IsOneOf c.one_of.new.net c.args.when.at c.vals_at.result.now ys c.in_ok-reading.reading.vals.items) c.vals_at-in-loop-number.ensures c.in_ok-reading.ensures.ok))
          c.in_ok-push.ensures.items c.loop-number.invariant.so_far;
    }

pub returns-clause-ok : goal.returns-clause-ok
returns-clause-ok c =
    merged_whole _ _ c.args.new.now c.args.old.now _ c.loop-number.number (omega (arith, c.greater-number-end.ensures)) c.loop-number.invariant.so_far
