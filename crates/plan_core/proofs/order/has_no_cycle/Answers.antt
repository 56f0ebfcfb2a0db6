-- Each function settles once, and each turn wakes the functions that wait.
use Rattle.std.proofs.Common.{◌≡◌, ◌<◌, ◌≤◌, length, sym, subst, ⊎_elim, arith}
use Rattle.std.proofs.lemmas.Bool.{cases_lt}
use Rattle.plan_core.specs.Order.{IsSettled}
use Rattle.plan_core.proofs.Placing.{order_few}
use Rattle.plan_core.proofs.Sorting.{no_cycle_from_placed, placed_from_no_cycle}
use Rattle.plan_core.proofs.order.has_no_cycle.Goals as goal

pub loop-function-preserved : goal.loop-function-preserved
loop-function-preserved c =
    record {
      kept = c.in_ok-settle.ensures.kept;
      settled =
          λ f low.
          ⊎_elim
          (λ before. c.in_ok-settle.ensures.others 0 f (omega arith) (c.loop-function.invariant.settled f before))
          (λ here.
          let same : f ≡ c.loop-function.function = omega arith in
          subst (λ h. IsSettled c.args.plan.now.callees c.settle.new.self 0 h) (sym same) (c.in_ok-settle.ensures.settled 0))
          (cases_lt f c.loop-function.function);
    }

pub loop-turn-preserved : goal.loop-turn-preserved
loop-turn-preserved c =
    record {
      kept = c.in_ok-wake.ensures.kept;
      settled = λ f low. c.in_ok-wake.ensures.settled f (c.loop-turn.invariant.settled f low);
    }

pub returns : goal.returns
returns c =
    let rows = c.args.plan.now.callees in
    let s = c.loop-turn.order in
    let kept = c.loop-turn.invariant.kept in
    let few = order_few rows s.placed.items s.met.items s.waiting.items s.order.items kept in (
      λ is. no_cycle_from_placed rows s.placed.items s.met.items s.waiting.items s.order.items kept (c.is_whole.ensures.0 is),
      λ acyclic.
          c.is_whole.ensures.1
          (placed_from_no_cycle rows s.placed.items s.waiting.items s.order.items c.loop-turn.turn c.requires kept.placed_many (omega arith)
          c.loop-turn.invariant.settled acyclic),
    )
