use Rattle.std.proofs.Common.{ℕ, refl, sym, ◌∙◌, ap, arith}
use Rattle.gl_store.specs.Meets.{val_top}
use Rattle.gl_store.specs.declared.values.Val.TheVariants as val
use Rattle.flow_updates.proofs.Numbered.{val_low, set_low}
use Rattle.flow_updates.proofs.Combining.{place_low, former_low, right_low, place_kind, can_combine}
use Rattle.flow_updates.proofs.Assigned.{updates, step_made}
use Rattle.flow_updates.proofs.updating.update.Goals as goal

pub place_in-place-requires-clause-low : goal.place_in-place-requires-clause-low
place_in-place-requires-clause-low c = place_low _ _ _ _ _ _ _ _ c.requires.can

pub place_in-place-requires-clause-kind : goal.place_in-place-requires-clause-kind
place_in-place-requires-clause-kind c = place_kind _ _ _ _ _ _ _ _ c.requires.can

pub val_in-x-requires : goal.val_in-x-requires
val_in-x-requires c = former_low _ _ _ _ _ _ _ _ c.requires.can

pub val_in-y-requires : goal.val_in-y-requires
val_in-y-requires c = right_low _ _ _ _ _ _ _ _ c.requires.can

pub combine-requires-clause-can : goal.combine-requires-clause-can
combine-requires-clause-can c = can_combine _ _ _ _ _ _ _ _ c.requires.can _ _ c.val_in-x.ensures c.val_in-y.ensures

pub combine-requires-clause-x : goal.combine-requires-clause-x
combine-requires-clause-x c =
    omega (arith, ap val_top c.val_in-x.ensures, val_low c.args.temps.now.vals.items c.args.assignment.now.former val.Unit (former_low _ _ _ _ _ _ _ _ c.requires.can), c.requires.temps.vals)

pub combine-requires-clause-y : goal.combine-requires-clause-y
combine-requires-clause-y c =
    omega (arith, ap val_top c.val_in-y.ensures, val_low c.args.temps.now.vals.items c.args.assignment.now.right val.Unit (right_low _ _ _ _ _ _ _ _ c.requires.can), c.requires.temps.vals)

pub assign-requires-clause-place : goal.assign-requires-clause-place
assign-requires-clause-place c =
    let low = set_low c.args.temps.now.vals.items c.args.assignment.now.place _ _ (place_low _ _ _ _ _ _ _ _ c.requires.can) c.place_in-place.ensures c.requires.temps.vals in
    omega (arith, low, c.in_ok-value.ensures.grown.longer)

pub returns-clause-made : goal.returns-clause-made
returns-clause-made c =
    step_made _ _ _ _ _ _ _ _ _ _ _ _ _ _ c.in_ok-val.ensures.grown
    (let low = c.requires.on in let first = c.in_ok-value.ensures.grown.longer in let next = c.in_ok-val.ensures.grown.longer in omega arith)
    c.in_ok-value.ensures.ready (c.combine.ensures.locations ∙ (c.in_ok-ends.ensures.locations ∙ sym c.requires.locations)) c.in_ok-val.ensures.ok c.usable-sure.ensures.below _ refl

pub returns-clause-ok : goal.returns-clause-ok
returns-clause-ok c =
    updates _ _ _ _ _ _ _ _ _ _ _ _ _ _ _ _ _ _ _ _ _ _ c.in_ok-value.ensures.grown c.in_ok-val.ensures.grown c.in_ok-ends.ensures.begun
    c.place_in-place.ensures c.val_in-x.ensures c.val_in-y.ensures c.in_ok-value.ensures.ok _ c.want_in-want.ensures c.in_ok-val.ensures.ok c.usable-sure.ensures.usable
