use Rattle.std.proofs.Common.{◌≡◌, drop, map, ◌-◌}
use Rattle.sc_world.specs.Build.{goes_on, done}
use Rattle.sc_world.specs.Objects.{object, elements, members}
use Rattle.sc_world.specs.Programs.{member}
use Rattle.sc_world.specs.View.{type}
use Rattle.layout_base.specs.Seen.{ground_of, layout_of, chosen_of}
use Rattle.places.proofs.objects.+object.Given as goal

abbrev pub decreases-object : goal.decreases-object
decreases-object l = l.deep

abbrev pub invariant-loop-k : goal.invariant-loop-k
invariant-loop-k l =
    goes_on (elements (object (l.deep - 1) (ground_of l.ground) (chosen_of l.chosen) l.whole) (l.n - l.k) l.k l.at (type l.element) (layout_of l.laid))
    (λ _. done l.at)
    ≡ object l.fn.deep (ground_of l.fn.ground) (chosen_of l.fn.chosen) l.fn.root (type l.fn.t) l.fn.origin (layout_of l.fn.laid)

abbrev pub invariant-loop-field : goal.invariant-loop-field
invariant-loop-field l =
    goes_on (members (object (l.deep - 1) (ground_of l.ground) (chosen_of l.chosen) l.whole) (ground_of l.ground).found l.at
    (map member (drop l.field-index l.fields)) (layout_of l.laid)) (λ _. done l.at)
    ≡ object l.fn.deep (ground_of l.fn.ground) (chosen_of l.fn.chosen) l.fn.root (type l.fn.t) l.fn.origin (layout_of l.fn.laid)
