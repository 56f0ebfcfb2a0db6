use Rattle.std.proofs.Common.{refl}
use Rattle.gl_store.proofs.MakeLemmas.{fresh_none, fresh_step, fresh_whole}
use Rattle.gl_store.proofs.making.fresh_locations.Goals as goal

pub loop-width-init : goal.loop-width-init
loop-width-init c = fresh_none _ _ c.new-locations.ensures.items

pub loop-width-preserved : goal.loop-width-preserved
loop-width-preserved c = fresh_step _ c.args.widths.now c.loop-width.width-index _ _ _ _ c.constant-never.result c.loop-width-test.true c.in_ok-push.ensures.items refl c.constant-never.ensures c.in_ok-val.ensures c.loop-width.invariant

pub returns : goal.returns
returns c = fresh_whole _ c.args.widths.now c.loop-width.width-index _ c.loop-width-test.false c.loop-width.invariant
