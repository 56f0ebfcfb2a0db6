use Rattle.std.proofs.Common.{◌∙◌, sym, arith}
use Rattle.bit_net.proofs.Growth.{Grown-refl, Grown-trans}
use Rattle.reach_net.proofs.RowLemmas.{row_wide, row_below, through_none, through_step, through_whole}
use Rattle.reach_net.proofs.rows.through.Goals as goal

pub loop-row-init : goal.loop-row-init
loop-row-init c = record { grown = Grown-refl _; so_far = through_none _ _ _ _ c.new-all.ensures.items }

pub widened-requires-clause-place : goal.widened-requires-clause-place
widened-requires-clause-place c = omega (arith, row_wide _ _ c.loop-row.row-index _ _ c.row-item.is c.deref.ensures.value c.loop-row-test.true c.requires.wide, c.requires.place)

pub widened-requires-clause-wide : goal.widened-requires-clause-wide
widened-requires-clause-wide c =
    row_wide _ _ c.args.k _ _ c.index-rows-k.is c.deref-in-loop-row.ensures.value c.requires.place c.requires.wide
    ∙ sym (row_wide _ _ c.loop-row.row-index _ _ c.row-item.is c.deref.ensures.value c.loop-row-test.true c.requires.wide)

pub widened-requires-clause-row : goal.widened-requires-clause-row
widened-requires-clause-row c = omega (arith, row_below _ c.loop-row.row-index _ _ c.row-item.is c.deref.ensures.value c.loop-row-test.true, c.requires.below, c.loop-row.invariant.grown.longer)

pub widened-requires-clause-next : goal.widened-requires-clause-next
widened-requires-clause-next c = omega (arith, row_below _ c.args.k _ _ c.index-rows-k.is c.deref-in-loop-row.ensures.value c.requires.place, c.requires.below, c.loop-row.invariant.grown.longer)

pub loop-row-preserved : goal.loop-row-preserved
loop-row-preserved c = record {
  grown = Grown-trans _ _ _ c.loop-row.invariant.grown c.in_ok-wider.ensures.grown;
  so_far = through_step _ _ c.args.k c.loop-row.row-index c.args.rows.now _ _ _ _ c.in_ok-wider.wider _ _ c.row-item.is c.index-rows-k.is c.deref.ensures.value c.deref-in-loop-row.ensures.value
      c.loop-row-test.true c.requires.place c.in_ok-push.ensures.items c.requires.wide c.in_ok-wider.ensures.grown c.in_ok-wider.ensures.ok c.loop-row.invariant.so_far;
}

pub returns-clause-ok : goal.returns-clause-ok
returns-clause-ok c = through_whole _ c.args.k c.loop-row.row-index c.args.rows.now _ c.loop-row-test.false (omega arith) c.loop-row.invariant.so_far
