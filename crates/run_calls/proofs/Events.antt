-- An event is one more in the trace.
use Rattle.std.proofs.Common.{◌≡◌, ◌+◌, Ok, length, ap, sym, ◌∙◌}
use Rattle.std.specs.Prelude.{Result}
use Rattle.std.proofs.lemmas.List.{length_push}
use Rattle.sc_base.specs.declared.pos.Pos.{Pos}
use Rattle.sum_rows.specs.declared.report.What.{What}
use Rattle.sc_world.specs.World as spec
use Rattle.sc_world.specs.World.{Ended}
use Rattle.run_world.specs.declared.world.World.{World}
use Rattle.run_world.specs.Seen.{world}

pub one_event : (old new : World) (p : Pos) (x : What) → spec.event p x (world old) ≡ (Ok tt, world new)
    → length new.trace.items ≡ length old.trace.items + 1
unfolding world
one_event old new p x h =
    sym (ap length (ap (λ (r : Result (Unit {0}) Ended × spec.World). r.1.trace) h)) ∙ length_push old.trace.items _
