use Rattle.std.proofs.Common.{subst}
use Rattle.whole_checks.specs.declared.planning.NoPlan.{NoPlan}
use Rattle.whole_checks.specs.Planned.{Says}
use Rattle.whole_replays.proofs.Tells.{twice_is_told, beyond_is_told}
use Rattle.whole_replays.proofs.telling.without_plan.Goals as goal

pub returns-in-Twice : goal.returns-in-Twice
returns-in-Twice c form s depth reach name digits says =
    let P : NoPlan → Type 0 = Says s in
    twice_is_told form s depth reach name digits c.in-Twice.name.items (subst P c.in-Twice.is says depth reach)

pub returns-in-Beyond : goal.returns-in-Beyond
returns-in-Beyond c form s depth reach name digits says =
    let P : NoPlan → Type 0 = Says s in
    beyond_is_told form s depth reach name digits c.in-Beyond.kind c.in-Beyond.count (subst P c.in-Beyond.is says depth reach)
