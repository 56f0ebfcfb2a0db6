use Rattle.std.proofs.Common.{◌+◌, length, ap, ◌∙◌, subst, sym}
use Rattle.flow_turns.specs.Ends.{AreBlank}
use Rattle.flow_turns.proofs.Beginning.{blank_more}
use Rattle.flow_turns.proofs.Lists.{length_more}
use Rattle.flow_turns.proofs.ends.no_slots.Goals as goal

pub loop-init : goal.loop-init
loop-init c =
    let is = c.new-slots.ensures.items in
    record { len = ap length is; blank = subst AreBlank (sym is) tt }

pub loop-preserved : goal.loop-preserved
loop-preserved c =
    let is = c.in_ok-push.ensures.items in
    record {
      len = ap length is ∙ length_more c.loop.slots.items _ ∙ ap (λ n. n + 1) c.loop.invariant.len;
      blank = subst AreBlank (sym is) (blank_more c.loop.slots.items _ c.loop.invariant.blank c.new.ensures.items);
    }
