-- The function is one more of those that wait for the callee.
use Rattle.std.proofs.Common.{◌≡◌, ◌++◌, ◌∷◌, [], slice_set, sym, subst, ap, ◌∙◌}
use Rattle.plan_core.specs.Order.{waiters, Keeps, Settled}
use Rattle.plan_core.proofs.Placing.{wait_kept, settled_wait, waits_settled, read_row}
use Rattle.plan_core.proofs.order.Order.wait.Goals as goal

pub returns-clause-kept : goal.returns-clause-kept
returns-clause-kept c rows low kept =
    let s = c.args.self.now in
    let pushed : c.push.new.self ≡ waiters s.waiting.items c.args.callee ++ c.args.function ∷ [] =
    c.in_ok-push.ensures.ok
    ∙ ap (λ fs. fs ++ c.args.function ∷ []) (read_row s.waiting.items c.args.callee c.index_mut.result.now c.requires.inside c.index_mut.ensures.value) in
    subst (λ fs. Keeps rows s.placed.items s.met.items (slice_set s.waiting.items c.args.callee fs) s.order.items) (sym pushed)
    (wait_kept rows s.placed.items s.met.items s.waiting.items s.order.items c.args.callee c.args.function kept c.requires.inside low)

pub returns-clause-settled : goal.returns-clause-settled
returns-clause-settled c rows turn has =
    let s = c.args.self.now in
    let pushed : c.push.new.self ≡ waiters s.waiting.items c.args.callee ++ c.args.function ∷ [] =
    c.in_ok-push.ensures.ok
    ∙ ap (λ fs. fs ++ c.args.function ∷ []) (read_row s.waiting.items c.args.callee c.index_mut.result.now c.requires.inside c.index_mut.ensures.value) in
    subst (λ fs. Settled rows s.placed.items (slice_set s.waiting.items c.args.callee fs) s.order.items turn c.args.function) (sym pushed)
    (waits_settled rows s.placed.items s.waiting.items s.order.items turn c.args.callee c.args.function c.requires.inside has c.requires.unplaced)

pub returns-clause-others : goal.returns-clause-others
returns-clause-others c rows turn f settled =
    let s = c.args.self.now in
    let pushed : c.push.new.self ≡ waiters s.waiting.items c.args.callee ++ c.args.function ∷ [] =
    c.in_ok-push.ensures.ok
    ∙ ap (λ fs. fs ++ c.args.function ∷ []) (read_row s.waiting.items c.args.callee c.index_mut.result.now c.requires.inside c.index_mut.ensures.value) in
    subst (λ fs. Settled rows s.placed.items (slice_set s.waiting.items c.args.callee fs) s.order.items turn f) (sym pushed)
    (settled_wait rows s.placed.items s.waiting.items s.order.items turn c.args.callee c.args.function f c.requires.inside settled)
