-- The element at hand takes values as the definition says.
use Rattle.std.proofs.Common.{◌≡◌, ◌+◌, ◌-◌, suc, length, sym, ◌∙◌, arith}
use Rattle.sc_fill.specs.Filling.{fill}
use Rattle.sc_fill.proofs.Elements.{element_full, element_last, element_next}
use Rattle.sc_fill.proofs.filling.+fill.Goals as goal

pub elements-returns-then-is_full-clause-filled : goal.elements-returns-then-is_full-clause-filled
elements-returns-then-is_full-clause-filled t c =
    sym (rw c.len-k-end.ensures at c.loop-k.invariant.0)
    ∙ element_full c.args.w c.args.at (fill c.args.w c.args.at c.args.deep c.args.t.now) c.args.bound (length c.args.filling.left - c.loop-k.k) c.loop-k.k c.loop-k.way.items c.loop-k.filling c.loop-k.walk
    (sym c.is_full.ensures ∙ c.if-is_full.true)

pub elements-returns-then-len-before-clause-filled : goal.elements-returns-then-len-before-clause-filled
elements-returns-then-len-before-clause-filled t c =
    let count : length c.args.filling.left - c.loop-k.k ≡ suc (length c.args.filling.left - c.loop-k.k - 1) = omega (arith, c.loop-k-test.true, c.len-k-end.ensures) in
    sym (rw c.len-k-end.ensures at c.loop-k.invariant.0)
    ∙ element_last c.args.w c.args.at (fill c.args.w c.args.at c.args.deep c.args.t.now) c.args.bound (length c.args.filling.left - c.loop-k.k) (length c.args.filling.left - c.loop-k.k - 1) c.loop-k.k c.loop-k.way.items c.loop-k.filling c.in_ok-filling.filling c.loop-k.walk c.part.new.walk
    count (sym c.is_full.ensures ∙ c.if-is_full.false) c.in_ok-filling.ensures.filled (sym c.len.ensures ∙ c.if-len-before.true ∙ c.len-before.ensures)

pub elements-loop-k-preserved : goal.elements-loop-k-preserved
elements-loop-k-preserved t c =
    let count : c.len-k-end.result - c.loop-k.k ≡ suc (c.len-k-end.result - (c.loop-k.k + 1)) = omega (arith, c.loop-k-test.true) in (
      element_next c.args.w c.args.at (fill c.args.w c.args.at c.args.deep c.args.t.now) c.args.bound (c.len-k-end.result - c.loop-k.k) (c.len-k-end.result - (c.loop-k.k + 1)) c.loop-k.k c.loop-k.way.items c.part.new.way.items c.loop-k.filling c.in_ok-filling.filling c.loop-k.walk c.part.new.walk
          count (sym c.is_full.ensures ∙ c.if-is_full.false) c.in_ok-filling.ensures.filled (λ e. c.if-len-before.false (c.len.ensures ∙ e ∙ sym c.len-before.ensures)) c.in_ok-filling.ensures.way
          ∙ c.loop-k.invariant.0,
      c.in_ok-filling.ensures.way ∙ c.loop-k.invariant.1,
    )
