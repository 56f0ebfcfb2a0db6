use Rattle.std.proofs.Common.{arith}
use Rattle.bit_net.proofs.Growth.{Grown-refl, Grown-trans}
use Rattle.flow_fills.proofs.Fills.{parts_none, parts_more, parts_whole}
use Rattle.flow_fills.proofs.filling.fill_parts.Goals as goal

pub loop-number-init : goal.loop-number-init
loop-number-init c = record { grown = Grown-refl _; so_far = parts_none _ _ _ _ _ _ _ _ _ _ c.requires.store }

pub loop-number-preserved : goal.loop-number-preserved
loop-number-preserved c =
    record {
      grown = Grown-trans _ _ _ c.loop-number.invariant.grown c.in_ok-fill_part.ensures.grown;
      so_far =
          parts_more _ _ _ _ c.args.ends.now c.args.filling.now.at c.args.filling.now.items.now c.args.slots.now c.args.filling.now.first c.args.filling.now.count c.loop-number.number _ _ _
          (omega arith) c.in_ok-fill_part.ensures.grown c.in_ok-fill_part.ensures.ok c.loop-number.invariant.so_far;
    }

pub returns-clause-ok : goal.returns-clause-ok
returns-clause-ok c = parts_whole _ _ _ _ _ _ _ _ _ c.loop-number.number _ _ (omega arith) c.loop-number.invariant.so_far
