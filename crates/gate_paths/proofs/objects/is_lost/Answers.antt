use Rattle.std.proofs.Common.{◌-◌, ap, arith}
use Rattle.layout_base.specs.Seen as laid
use Rattle.gate_paths.proofs.Moving.{null_stays, is_lost_at}
use Rattle.gate_paths.proofs.objects.is_lost.Goals as goal

pub returns-then-target-eq0 : goal.returns-then-target-eq0
returns-then-target-eq0 c = null_stays _ _ (laid.layout_of c.args.layout.now.places.now) c.args.target _ c.if-target-eq0.true c.constant.ensures

pub returns-else-target-eq0 : goal.returns-else-target-eq0
returns-else-target-eq0 c =
    is_lost_at _ _ (laid.layout_of c.args.layout.now.places.now) c.args.target (c.args.target - 1) _ _ (omega arith)
    (ap (λ l. l.root) c.location-location.ensures) c.flag_anywhere.ensures
