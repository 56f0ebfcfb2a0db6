use Rattle.std.proofs.Common.{◌+◌, false, length, slice_index_or, ap, ◌∙◌}
use Rattle.flow_turns.proofs.Beginning.{flag_more}
use Rattle.flow_turns.proofs.Lists.{length_more}
use Rattle.flow_turns.proofs.ends.no_flags.Goals as goal

pub loop-init : goal.loop-init
loop-init c =
    let is = c.new-flags.ensures.items in
    record { len = ap length is; none = λ m. ap (λ xs. slice_index_or xs m false) is }

pub loop-preserved : goal.loop-preserved
loop-preserved c =
    let is = c.in_ok-push.ensures.items in
    record {
      len = ap length is ∙ length_more c.loop.flags.items false ∙ ap (λ n. n + 1) c.loop.invariant.len;
      none = λ m. ap (λ xs. slice_index_or xs m false) is ∙ flag_more c.loop.flags.items c.loop.invariant.none m;
    }
