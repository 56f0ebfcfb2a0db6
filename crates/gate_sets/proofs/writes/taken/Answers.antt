use Rattle.std.proofs.Common.{◌≡◌, map, length, subst, ap, ◌∙◌}
use Rattle.gl_sets.specs.Guards.{targets_of}
use Rattle.gl_sets.specs.Sets.{IsMoved}
use Rattle.run_world.specs.Seen as seen
use Rattle.gate_places.proofs.Membering.{targets_wide}
use Rattle.gate_sets.specs.Writes.{taken_target}
use Rattle.gate_sets.proofs.Filling.{are_taken}
use Rattle.gate_sets.proofs.writes.taken.Goals as goal

pub moved-requires-clause-wide : goal.moved-requires-clause-wide
moved-requires-clause-wide c =
    ap length c.as_slice-2.ensures.value
    ∙ targets_wide (λ t. taken_target (seen.env c.args.here.now).source (seen.env c.args.here.now).layout c.args.width t) c.args.at.now.pairs.items
    c.in_ok-targets.targets.items
    (subst (λ ps. map (λ t. taken_target (seen.env c.args.here.now).source (seen.env c.args.here.now).layout c.args.width t) (targets_of ps) ≡ c.in_ok-targets.targets.items)
    c.as_slice.ensures c.in_ok-targets.ensures)

pub returns-clause-ok : goal.returns-clause-ok
returns-clause-ok c =
    are_taken (seen.env c.args.here.now).source (seen.env c.args.here.now).layout _ c.args.width c.args.at.now.pairs.items _ c.in_ok-targets.targets.items
    (subst (λ ps. map (λ t. taken_target (seen.env c.args.here.now).source (seen.env c.args.here.now).layout c.args.width t) (targets_of ps) ≡ c.in_ok-targets.targets.items)
    c.as_slice.ensures c.in_ok-targets.ensures)
    (subst (λ ts. IsMoved c.moved.new.net c.args.at.now.pairs.items ts c.in_ok-made.made.pairs.items) c.as_slice-2.ensures.value c.in_ok-made.ensures.ok)
