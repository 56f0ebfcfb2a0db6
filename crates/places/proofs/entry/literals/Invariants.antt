use Rattle.std.proofs.Common.{◌≡◌, drop}
use Rattle.sc_world.specs.Objects.{lay_literals}
use Rattle.layout_base.specs.Seen.{layout_of}
use Rattle.places.proofs.entry.literals.Given as goal

abbrev pub invariant-loop-origin : goal.invariant-loop-origin
invariant-loop-origin l =
    lay_literals (drop l.origin-index l.literals) (layout_of l.laid)
    ≡ lay_literals l.fn.literals (layout_of l.fn.laid)
