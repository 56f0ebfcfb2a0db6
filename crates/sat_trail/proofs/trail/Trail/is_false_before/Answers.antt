-- The step of the variable has the other sign.
use Rattle.std.proofs.Common.{◌≤◌, false, take, length, slice_get, sym, subst, ap, ◌∙◌}
use Rattle.sat_trail.specs.Steps.{Tells}
use Rattle.sat_trail.proofs.PlaceLemmas.{false_before, differ_not_same}
use Rattle.sat_trail.proofs.trail.Trail.is_false_before.Goals as goal

pub returns-then-place-k : goal.returns-then-place-k
returns-then-place-k c apart =
    let view = ap (λ t. t.steps) c.self.view_is in
    subst (λ steps. Tells (take c.args.k steps) c.args.lit false) view
    (false_before c.self.inside.order.items c.self.inside.places.items c.self.inside.len c.args.k c.in-Some.place c.args.lit c.index.result.now
    c.self.invariant.1 (ap (λ ps. slice_get ps c.args.lit.var) (sym c.as_slice.ensures.value) ∙ sym c.in-Some.ensures) c.if-place-k.true
    (subst (λ steps. c.args.k ≤ length steps) (sym view) c.requires) c.index.ensures
    (differ_not_same c.index.result.now.lit.neg c.args.lit.neg (sym c.differs.ensures ∙ apart)))
