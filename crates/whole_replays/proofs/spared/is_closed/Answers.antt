use Rattle.std.proofs.Common.{◌∙◌, sym}
use Rattle.whole_replays.proofs.Spares.{met_more}
use Rattle.whole_replays.proofs.spared.is_closed.Goals as goal

pub loop-function-preserved : goal.loop-function-preserved
loop-function-preserved c =
    met_more c.args.plan.now.callees c.args.spared.now c.loop-function.function c.loop-function.invariant
    (sym c.is_met.ensures ∙ c.if-not-is_met.false)
