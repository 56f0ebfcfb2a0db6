use Rattle.std.proofs.Common.{refl}
use Rattle.flow_keeps.proofs.Setting.{set_value}
use Rattle.flow_keeps.proofs.locals.set.Goals as goal

pub returns-clause-ok : goal.returns-clause-ok
returns-clause-ok c =
    set_value _ _ _ c.args.location c.args.next c.args.here c.args.made.now c.args.before.now _ _ c.one-place.result
    c.in_ok-store.ensures.grown c.one-place.ensures.points c.in_ok-store.ensures.ok (record { temps = refl; ways = refl; fates = refl; result = refl; blank = refl }) c.in_ok-go_on.ensures.ok
