use Rattle.std.proofs.Common.{◌≡◌, map, length, subst, ap, ◌∙◌}
use Rattle.gl_sets.specs.Guards.{targets_of}
use Rattle.gl_sets.specs.Sets.{IsMoved}
use Rattle.run_world.specs.Seen as seen
use Rattle.gate_places.proofs.Membering.{targets_wide}
use Rattle.gate_sets.specs.States.{state_target}
use Rattle.gate_sets.proofs.Stating.{are_states}
use Rattle.gate_sets.proofs.states.states_of.Goals as goal

pub moved-requires-clause-wide : goal.moved-requires-clause-wide
moved-requires-clause-wide c =
    ap length c.as_slice-2.ensures.value
    ∙ targets_wide (λ t. state_target (length (seen.env c.args.here.now).layout.locations) t) c.args.at.now.pairs.items c.in_ok-targets.targets.items
    (subst (λ ps. map (λ t. state_target (length (seen.env c.args.here.now).layout.locations) t) (targets_of ps) ≡ c.in_ok-targets.targets.items)
    c.as_slice.ensures c.in_ok-targets.ensures)

pub returns-clause-ok : goal.returns-clause-ok
returns-clause-ok c =
    are_states (seen.env c.args.here.now).layout _ c.args.at.now.pairs.items _ c.in_ok-targets.targets.items
    (subst (λ ps. map (λ t. state_target (length (seen.env c.args.here.now).layout.locations) t) (targets_of ps) ≡ c.in_ok-targets.targets.items)
    c.as_slice.ensures c.in_ok-targets.ensures)
    (subst (λ ts. IsMoved c.moved.new.net c.args.at.now.pairs.items ts c.in_ok-states.states.pairs.items) c.as_slice-2.ensures.value c.in_ok-states.ensures.ok)
