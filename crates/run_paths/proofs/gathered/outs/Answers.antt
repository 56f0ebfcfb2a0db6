use Rattle.std.proofs.Common.{ap, ◌∙◌, arith, map, ◌++◌, []}
use Rattle.run_world.specs.Seen.{cell, env, world}
use Rattle.layout_base.specs.Seen.{spot_of}
use Rattle.sc_world.specs.Known.{spot_behind, with_out}
use Rattle.run_paths.specs.Seen.{outed}
use Rattle.run_paths.proofs.Gathers.{outs_turn}
use Rattle.run_paths.proofs.gathered.outs.Goals as goal

pub loop-x-preserved : goal.loop-x-preserved
unfolding env
loop-x-preserved c =
    record {
      same = outs_turn (env c.args.here.now) (map cell c.args.arguments.now) c.loop-x.k c.spot_behind-k.result c.args.items.now c.loop-x.x-index (world c.args.store.now) c.out_item-at.result
          (map outed c.loop-x.found.items) (map outed c.push.new.found.items) c.x-item.result (spot_of c.spot_at.result)
          c.loop-x-test.true c.x-item.is c.out_item-at.ensures
          (c.push.ensures.outs ∙ ap (λ rows. map outed c.loop-x.found.items ++ with_out rows (spot_of c.spot_at.result) c.out_item-at.result []) c.as_slice.ensures)
          c.spot_at.ensures
          (c.spot_behind-k.ensures.value ∙ ap (λ b. spot_behind b c.loop-x.k) c.is_of.ensures)
          ∙ c.loop-x.invariant.same;
      spot = omega (arith, c.loop-x.invariant.spot, c.spot_behind-k.ensures.most);
      len = omega (arith, c.loop-x.invariant.len, c.push.ensures.len);
      room = c.push.ensures.capacity ∙ c.loop-x.invariant.room;
    }
