-- The function stands last in the order.
use Rattle.std.proofs.Common.{slice_set, true, sym, subst}
use Rattle.plan_core.specs.Order.{Keeps, Settled}
use Rattle.plan_core.proofs.Placing.{place_kept, settled_place}
use Rattle.plan_core.proofs.order.Order.place.Goals as goal

pub returns-clause-kept : goal.returns-clause-kept
returns-clause-kept c rows kept ready =
    let s = c.args.self.now in
    subst (Keeps rows (slice_set s.placed.items c.args.function true) s.met.items s.waiting.items) (sym c.in_ok-push.ensures.items)
    (place_kept rows s.placed.items s.met.items s.waiting.items s.order.items c.args.function kept c.requires.inside c.requires.unplaced ready)

pub returns-clause-others : goal.returns-clause-others
returns-clause-others c rows turn f low settled =
    let s = c.args.self.now in
    subst (λ order. Settled rows (slice_set s.placed.items c.args.function true) s.waiting.items order turn f) (sym c.in_ok-push.ensures.items)
    (settled_place rows s.placed.items s.waiting.items s.order.items turn c.args.function f c.requires.inside low settled)
