use Rattle.gate_states.proofs.Reading.{is_widened}
use Rattle.gate_states.proofs.before.widened.Goals as goal

pub returns : goal.returns
returns c =
    is_widened c.args.net.now c.in_ok-wide.wide.bits.items c.args.bits.now _ c.args.width c.saturating_sub.result c.requires
    c.saturating_sub.ensures c.in_ok-wide.ensures c.in_ok-extend_from_slice.ensures.items
