-- Each block in turn.
use Rattle.std.proofs.Common.{length, ap, ◌∙◌, arith, length-append}
use Rattle.sat_pool.specs.Layout.{live_part}
use Rattle.sat_pool.proofs.Compaction.{block_more, length-live_part, length-noted, copied_all_in}
use Rattle.sat_pool.proofs.layout.copy_live.Goals as goal

pub copy_block-at-requires-clause-block : goal.copy_block-at-requires-clause-block
copy_block-at-requires-clause-block c =
    (block_more _ _ _ _ c.requires.whole c.loop-at-test.true c.loop-at.invariant.table c.loop-at.invariant.progress).0

pub loop-at-preserved : goal.loop-at-preserved
loop-at-preserved c =
    let list = c.args.list.now in
    let at = c.loop-at.at in
    let t = block_more list at c.loop-at.copy.items c.loop-at.places.items c.requires.whole c.loop-at-test.true c.loop-at.invariant.table c.loop-at.invariant.progress in
    let wide = length-live_part list at in
    let ends = t.0.ends in
    let sum = length-append c.loop-at.copy.items (live_part list at) in
    let copied = ap length c.copy_block-at.ensures.copied in
    let next = c.copy_block-at.ensures.next in
    let room = c.loop-at.invariant.room in
    let capacity = c.copy_block-at.ensures.capacity in
    record {
      progress = rw (c.copy_block-at.ensures.next, c.copy_block-at.ensures.copied, c.copy_block-at.ensures.noted) t.1;
      table = ap length c.copy_block-at.ensures.noted ∙ length-noted list at c.loop-at.places.items (length c.loop-at.copy.items) ∙ c.loop-at.invariant.table;
      room = omega (arith, wide, ends, sum, copied, next, room, capacity);
    }

pub returns-clause-copied : goal.returns-clause-copied
returns-clause-copied c = (copied_all_in _ _ _ _ c.requires.whole c.loop-at-test.false c.loop-at.invariant.progress).0

pub returns-clause-noted : goal.returns-clause-noted
returns-clause-noted c = (copied_all_in _ _ _ _ c.requires.whole c.loop-at-test.false c.loop-at.invariant.progress).1
