use Rattle.std.proofs.Common.{◌≡◌, map, length, subst, ap, ◌∙◌}
use Rattle.gl_sets.specs.Guards.{targets_of}
use Rattle.gl_sets.specs.Sets.{IsMoved}
use Rattle.run_world.specs.Seen as seen
use Rattle.gate_places.proofs.Membering.{targets_wide}
use Rattle.gate_objects.specs.Escapes.{object_target}
use Rattle.gate_objects.proofs.Escaping.{is_object}
use Rattle.gate_objects.proofs.escapes.object_of.Goals as goal

pub moved-requires-clause-wide : goal.moved-requires-clause-wide
moved-requires-clause-wide c =
    ap length c.as_slice-2.ensures.value
    ∙ targets_wide (λ t. object_target (seen.env c.args.here.now).layout t) c.args.pointer.now.pairs.items c.in_ok-targets.targets.items
    (subst (λ ps. map (λ t. object_target (seen.env c.args.here.now).layout t) (targets_of ps) ≡ c.in_ok-targets.targets.items)
    c.as_slice.ensures c.in_ok-targets.ensures)

pub returns-clause-ok : goal.returns-clause-ok
returns-clause-ok c =
    is_object (seen.env c.args.here.now).layout _ c.args.pointer.now.pairs.items _ c.in_ok-targets.targets.items
    (subst (λ ps. map (λ t. object_target (seen.env c.args.here.now).layout t) (targets_of ps) ≡ c.in_ok-targets.targets.items)
    c.as_slice.ensures c.in_ok-targets.ensures)
    (subst (λ ts. IsMoved c.moved.new.net c.args.pointer.now.pairs.items ts c.in_ok-object.object.pairs.items) c.as_slice-2.ensures.value c.in_ok-object.ensures.ok)
