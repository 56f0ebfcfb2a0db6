use Rattle.std.proofs.Common.{◌∙◌, refl, subst}
use Rattle.flow_fills.specs.Laid.{layout_of, source_of}
use Rattle.flow_fills.specs.Fills.{SetsParts}
use Rattle.flow_fills.proofs.Fills.{fill_node}
use Rattle.flow_fills.proofs.filling.fill.Goals as goal

pub returns-clause-ok : goal.returns-clause-ok
returns-clause-ok c =
    fill_node _ _ _ _ _ _ c.args.filling.now.at c.args.filling.now.items.now c.args.filling.now.first c.args.filling.now.count c.args.filling.now.next c.args.here c.args.before.now
    (record c.args.before.now { store = c.clear.new.stored }) _ _ c.in_ok-ends.ends
    c.in_ok-clear.ensures.grown c.in_ok-fill_parts.ensures.grown c.in_ok-ends.ensures.begun c.in_ok-clear.ensures.ok
    (subst (λ xs. SetsParts (source_of c.args.laid.now) (layout_of c.args.laid.now) c.fill_parts.new.net c.in_ok-ends.ends c.args.filling.now.at c.args.filling.now.items.now xs c.args.filling.now.first c.args.filling.now.count c.clear.new.stored.locations.items c.fill_parts.new.stored.locations.items)
    c.as_slice-slots.ensures.value c.in_ok-fill_parts.ensures.ok)
    (record { temps = refl; ways = refl; fates = refl; result = refl; blank = refl }) c.in_ok-go_on.ensures.ok
