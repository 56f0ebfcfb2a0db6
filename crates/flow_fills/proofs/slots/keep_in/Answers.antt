use Rattle.std.proofs.Common.{sym, ◌∙◌, subst}
use Rattle.flow_turns.specs.Kept.{cells_at}
use Rattle.flow_fills.specs.Merged.{AreMerged}
use Rattle.flow_fills.proofs.KeptCells.{kept_again}
use Rattle.flow_fills.proofs.slots.keep_in.Goals as goal

pub returns-in_ok-both-clause-ok : goal.returns-in_ok-both-clause-ok
returns-in_ok-both-clause-ok c =
    kept_again _ _ _ _ c.in_ok-both.both.items _ _ (sym c.was_filled.ensures ∙ c.if-was_filled.true)
    (subst (λ rs. AreMerged c.merged_in.new.net c.args.when.at rs (cells_at c.args.slots.now c.args.slot) c.in_ok-both.both.items) c.as_slice.ensures.value c.in_ok-both.ensures.ok)
    c.set_slot.ensures.len c.set_slot.ensures.filled c.set_slot.ensures.cells
