use Rattle.std.proofs.Common.{ap, ◌∙◌, arith, map, ◌++◌, []}
use Rattle.run_world.specs.Seen.{cell, env, world}
use Rattle.sc_world.specs.Known.{spot_behind, with_locked}
use Rattle.run_paths.specs.Seen.{locked}
use Rattle.run_paths.proofs.Gathers.{locks_turn}
use Rattle.run_paths.proofs.gathered.locks.Goals as goal

pub loop-x-preserved : goal.loop-x-preserved
unfolding env
loop-x-preserved c =
    record {
      same = locks_turn (env c.args.here.now) (map cell c.args.arguments.now) c.loop-x.k c.spot_behind-k.result c.args.items.now c.loop-x.x-index (world c.args.store.now) c.locked_item-at.result
          (map locked c.loop-x.found.items) (map locked c.push.new.found.items) c.x-item.result c.spot_at.result.bit
          c.loop-x-test.true c.x-item.is (c.locked_item-at.ensures c.loop-x.k)
          (c.push.ensures.locks ∙ ap (λ rows. map locked c.loop-x.found.items ++ with_locked rows c.spot_at.result.bit c.locked_item-at.result []) c.as_slice.ensures)
          (ap (λ s. s.bit) c.spot_at.ensures)
          (c.spot_behind-k.ensures.value ∙ ap (λ b. spot_behind b c.loop-x.k) c.is_of.ensures)
          ∙ c.loop-x.invariant.same;
      spot = omega (arith, c.loop-x.invariant.spot, c.spot_behind-k.ensures.most);
      len = omega (arith, c.loop-x.invariant.len, c.push.ensures.len);
      room = c.push.ensures.capacity ∙ c.loop-x.invariant.room;
    }
