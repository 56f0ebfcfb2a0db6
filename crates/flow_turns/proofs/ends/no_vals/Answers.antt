use Rattle.std.proofs.Common.{◌+◌, length, slice_index_or, ap, ◌∙◌}
use Rattle.gl_store.specs.declared.values.Val.TheVariants as val
use Rattle.flow_turns.specs.Kept.{vals_top}
use Rattle.flow_turns.proofs.Beginning.{unit_more, vals_more, vals_none}
use Rattle.flow_turns.proofs.Lists.{length_more}
use Rattle.flow_turns.proofs.ends.no_vals.Goals as goal

pub loop-init : goal.loop-init
loop-init c =
    let is = c.new-vals.ensures.items in
    record { len = ap length is; none = λ m. ap (λ xs. slice_index_or xs m val.Unit) is; top = ap vals_top is ∙ vals_none }

pub loop-preserved : goal.loop-preserved
loop-preserved c =
    let is = c.in_ok-push.ensures.items in
    record {
      len = ap length is ∙ length_more c.loop.vals.items val.Unit ∙ ap (λ n. n + 1) c.loop.invariant.len;
      none = λ m. ap (λ xs. slice_index_or xs m val.Unit) is ∙ unit_more c.loop.vals.items c.loop.invariant.none m;
      top = ap vals_top is ∙ vals_more c.loop.vals.items c.loop.invariant.top;
    }
