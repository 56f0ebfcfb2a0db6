-- A publication keeps the marks sound for every plan.
use Rattle.std.proofs.Common.{◌≡◌, true, slice_set, sym, subst}
use Rattle.plan_core.specs.declared.mark.Mark.TheVariants.{Published}
use Rattle.plan_core.specs.Core.{mark_of, is_claimed_by, IsSound}
use Rattle.plan_core.proofs.Marks.{publish_sound}
use Rattle.plan_core.proofs.state.CoreState.publish.Goals as goal

pub returns-then-owned-clause-sound : goal.returns-then-owned-clause-sound
returns-then-owned-clause-sound c rows sound =
    let owned : is_claimed_by c.args.worker (mark_of c.args.self.now c.args.function) ≡ true = cc in
    subst (λ marks. IsSound rows (mark_of (slice_set marks c.args.function Published))) (sym c.self.view_is)
    (publish_sound rows c.args.self.now c.args.worker c.args.function owned sound)
