use Rattle.report_text.proofs.Hex.{digits_more}
use Rattle.report_text.proofs.shown.put_choice.Goals as goal

pub loop-k-preserved : goal.loop-k-preserved
loop-k-preserved c =
    digits_more c.args.out.now.items c.loop-k.out.items _ c.args.choice.now c.loop-k.k c.digit_at.result c.digit_at.ensures c.loop-k.invariant c.in_ok-push.ensures.items
