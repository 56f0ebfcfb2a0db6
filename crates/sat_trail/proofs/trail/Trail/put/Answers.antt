-- The step of the variable gives it its value.
use Rattle.std.proofs.Common.{◌≤◌, false, not, take, length, slice_get, refl, sym, subst, ap, ◌∙◌}
use Rattle.sat_trail.specs.Steps.{Tells}
use Rattle.sat_trail.proofs.PlaceLemmas.{told_before}
use Rattle.sat_trail.proofs.trail.Trail.put.Goals as goal

pub returns-in-Some-clause-put : goal.returns-in-Some-clause-put
returns-in-Some-clause-put c =
    let view = ap (λ t. t.steps) c.self.view_is in (
      refl,
      subst (λ steps. Tells (take c.args.k steps) (record { var = c.args.step.lit.var; neg = false }) (not c.index.result.now.lit.neg)) view
          (told_before c.self.inside.order.items c.self.inside.places.items c.self.inside.len c.args.k c.args.step.lit.var c.in-Some.place c.index.result.now
          c.self.invariant.1 (ap (λ ps. slice_get ps c.args.step.lit.var) (sym c.as_slice.ensures.value) ∙ sym c.in-Some.ensures) c.if-place-k.true
          (subst (λ steps. c.args.k ≤ length steps) (sym view) c.requires) c.index.ensures),
    )
