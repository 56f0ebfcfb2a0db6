use Rattle.std.proofs.Common.{◌≡◌, ◌+◌, ◌<◌, length, drop, ap, ◌∙◌, arith}
use Rattle.sc_world.specs.Tree.{Exps'}
use Rattle.sc_world.specs.View.{exp}
use Rattle.run_world.specs.Seen.{world, env}
use Rattle.run_exprs.specs.Room.{room, room_all}
use Rattle.run_exprs.specs.Seen.{arguments_of}
use Rattle.run_exprs.proofs.Arguments.{next_arguments, next_argument, argument_room, front_stays, one_longer}
use Rattle.run_exprs.proofs.evaluate.+evaluate.Goals as goal

pub eval_all-loop-e-preserved : goal.eval_all-loop-e-preserved
eval_all-loop-e-preserved g t c =
    let structs = (env c.args.here.now).source.structs in
    let args = c.args.args.now in
    let i = c.loop-e.e-index in
    let e = c.e-item.result in
    let values = c.loop-e.kept.arguments.items in
    let same : length c.as_slice-e-items.result.now ≡ length args = ap length c.as_slice-e-items.ensures in
    let low : i < length args = omega (arith, same, c.loop-e-test.true) in
    let next : arguments_of structs (drop i args) ≡ Exps' (exp structs e) (arguments_of structs (drop (i + 1) args)) =
    next_arguments structs c.as_slice-e-items.result.now args i e c.as_slice-e-items.ensures low c.e-item.is in
    let needs : room_all (arguments_of structs (drop i args)) ≡ room (exp structs e) + (room_all (arguments_of structs (drop (i + 1) args)) + 1) =
    argument_room structs args i e next in
    let more : length c.keep.new.values.items ≡ length values + 1 =
    one_longer values c.eval.new.kept.arguments.items c.keep.new.values.items c.in_ok-value.value c.in_ok-value.ensures.arguments c.keep.ensures.kept in
    record {
      evaluated = next_argument (env c.args.here.now) structs args i e (world c.loop-e.world) (world c.eval.new.world) _ values c.eval.new.kept.arguments.items c.keep.new.values.items c.in_ok-value.value _
          next c.in_ok-value.ensures.evaluated c.in_ok-value.ensures.arguments c.keep.ensures.kept c.loop-e.invariant.longer c.loop-e.invariant.evaluated;
      longer = omega (arith, more);
      front = front_stays _ values c.eval.new.kept.arguments.items c.keep.new.values.items _ c.in_ok-value.value c.in_ok-value.ensures.arguments c.keep.ensures.kept c.loop-e.invariant.longer c.loop-e.invariant.front;
      same = ap (λ f. f c.args.here.now.turn) c.in_ok-value.ensures.reads ∙ c.loop-e.invariant.same;
      unchanged = c.in_ok-value.ensures.reads ∙ c.loop-e.invariant.unchanged;
      locations = omega arith;
      few_cells = omega arith;
      few_events = omega (arith, needs);
      room = omega arith;
      few_arguments = omega (arith, needs, more);
      capacity = omega arith;
    }
