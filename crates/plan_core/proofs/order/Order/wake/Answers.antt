-- Those that waited for the function at this turn are taken out, and settled one by one.
use Rattle.std.proofs.Common.{◌≡◌, ◌+◌, ◌<◌, ◌≤◌, [], length, get_or, slice_set, inl, inr, sym, subst, ap, ◌∙◌, ⊎_elim, arith}
use Rattle.std.specs.List.{Contains}
use Rattle.plan_core.specs.Order.{waiters, Keeps, Settled, IsSettled}
use Rattle.plan_core.proofs.Rows.{get_or_any}
use Rattle.plan_core.proofs.Placing.{order_inside, settled_past, wake_kept, settled_wake, read_row, drop_cases, drop_none}
use Rattle.plan_core.proofs.order.Order.wake.Goals as goal

pub returns-then-turn-len-clause-settled : goal.returns-then-turn-len-clause-settled
returns-then-turn-len-clause-settled c f settled =
    let s = c.args.self.now in
    settled_past c.args.plan.now.callees s.placed.items s.met.items s.waiting.items s.order.items c.args.turn f (omega arith) settled

pub index_mut-requires : goal.index_mut-requires
index_mut-requires c =
    let s = c.args.self.now in
    let low : c.args.turn < length s.order.items = omega arith in
    let at : get_or s.order.items c.args.turn 0 ≡ c.index.result.now =
    get_or_any s.order.items c.args.turn 0 c.index.result.now low ∙ sym c.index.ensures in
    let inside = order_inside c.args.plan.now.callees s.placed.items s.met.items s.waiting.items s.order.items c.requires.kept c.args.turn low in
    let many = c.requires.kept.waiting_many in let ok = s.waiting.ok.0 in omega arith

pub loop-function-init : goal.loop-function-init
loop-function-init c =
    let s = c.args.self.now in
    let rows = c.args.plan.now.callees in
    let low : c.args.turn < length s.order.items = omega arith in
    let at : get_or s.order.items c.args.turn 0 ≡ c.index.result.now =
    get_or_any s.order.items c.args.turn 0 c.index.result.now low ∙ sym c.index.ensures in
    let inside = order_inside rows s.placed.items s.met.items s.waiting.items s.order.items c.requires.kept c.args.turn low in
    let many = c.requires.kept.waiting_many in
    let g = c.index.result.now in
    let within : g < length s.waiting.items = omega arith in
    let emptied : c.replace-waiting.new.dest ≡ [] = c.replace-waiting.ensures.after ∙ c.new.ensures in
    let items : c.as_slice-function-items.result.now ≡ waiters s.waiting.items g =
    c.as_slice-function-items.ensures
    ∙ (c.replace-waiting.ensures.value ∙ read_row s.waiting.items g c.index_mut.result.now within c.index_mut.ensures.value) in
    record {
      kept =
          subst (λ fs. Keeps rows s.placed.items s.met.items (slice_set s.waiting.items g fs) s.order.items) (sym emptied)
          (wake_kept rows s.placed.items s.met.items s.waiting.items s.order.items g c.requires.kept within);
      within = low;
      settled =
          λ f settled.
          ⊎_elim
          (λ on.
          inl (subst (λ fs. Settled rows s.placed.items (slice_set s.waiting.items g fs) s.order.items (c.args.turn + 1) f) (sym emptied) on))
          (λ left. inr (subst (λ fs. Contains fs f) (sym items) left))
          (settled_wake rows s.placed.items s.waiting.items s.order.items c.args.turn g f at settled);
    }

pub settle-requires-clause-inside : goal.settle-requires-clause-inside
settle-requires-clause-inside c =
    let s = c.args.self.now in
    let rows = c.args.plan.now.callees in
    let low : c.args.turn < length s.order.items = omega arith in
    let at : get_or s.order.items c.args.turn 0 ≡ c.index.result.now =
    get_or_any s.order.items c.args.turn 0 c.index.result.now low ∙ sym c.index.ensures in
    let inside = order_inside rows s.placed.items s.met.items s.waiting.items s.order.items c.requires.kept c.args.turn low in
    let many = c.requires.kept.waiting_many in
    let g = c.index.result.now in
    let within : g < length s.waiting.items = omega arith in
    let items : c.as_slice-function-items.result.now ≡ waiters s.waiting.items g =
    c.as_slice-function-items.ensures
    ∙ (c.replace-waiting.ensures.value ∙ read_row s.waiting.items g c.index_mut.result.now within c.index_mut.ensures.value) in
    let fs = c.as_slice-function-items.result.now in
    let i = c.loop-function.function-index in
    c.requires.kept.inside g (get_or fs i 0)
    (subst (λ hs. Contains hs (get_or fs i 0)) items
    (i, c.loop-function-test.true, get_or_any fs i (get_or fs i 0) 0 c.loop-function-test.true))

pub loop-function-preserved : goal.loop-function-preserved
loop-function-preserved c =
    let fs = c.as_slice-function-items.result.now in
    let i = c.loop-function.function-index in
    let turn = c.args.turn in
    let within = c.loop-function.invariant.within in
    let longer = c.in_ok-settle.ensures.longer in
    record {
      kept = c.in_ok-settle.ensures.kept;
      within = omega arith;
      settled =
          λ f settled.
          ⊎_elim
          (λ on. inl (c.in_ok-settle.ensures.others (turn + 1) f (omega arith) on))
          (λ left.
          ⊎_elim
          (λ here. inl (subst (λ h. IsSettled c.args.plan.now.callees c.settle.new.self (turn + 1) h) here (c.in_ok-settle.ensures.settled (turn + 1))))
          (λ later. inr later)
          (drop_cases fs i f c.loop-function-test.true left))
          (c.loop-function.invariant.settled f settled);
    }

pub returns-clause-settled : goal.returns-clause-settled
returns-clause-settled c f settled =
    ⊎_elim
    (λ on. on)
    (λ left. absurd (drop_none c.as_slice-function-items.result.now c.loop-function.function-index f c.loop-function-test.false left))
    (c.loop-function.invariant.settled f settled)
