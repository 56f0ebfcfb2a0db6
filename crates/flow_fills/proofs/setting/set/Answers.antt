use Rattle.std.proofs.Common.{refl}
use Rattle.sc_world.specs.View.{type}
use Rattle.flow_fills.proofs.Locals.{set_local_node}
use Rattle.flow_fills.proofs.setting.set.Goals as goal

pub returns-clause-ok : goal.returns-clause-ok
returns-clause-ok c =
    set_local_node _ _ _ _ _ (type c.args.setting.now.local.ctype.now) c.args.setting.now.local.at c.args.setting.now.next c.args.here c.args.made.now c.args.before.now _ _
    c.in_ok-set_local.ensures.grown c.in_ok-set_local.ensures.ok (record { temps = refl; ways = refl; fates = refl; result = refl; blank = refl }) c.in_ok-go_on.ensures.ok
