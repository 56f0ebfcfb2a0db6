-- The row that the loop reads is the row of the function at its index.
use Rattle.std.proofs.Common.{◌≡◌, length, refl, sym, subst, ap, ◌∙◌, ⊎_elim, arith}
use Rattle.std.proofs.lemmas.Bool.{cases_lt, true≢false, false≢true}
use Rattle.plan_core.specs.Graph.{callees}
use Rattle.plan_core.specs.Order.{IsRow}
use Rattle.plan_core.proofs.Rows.{row_read}
use Rattle.plan_core.proofs.plan.Plan.has_rows.Goals as goal

pub returns-then-not-is_row : goal.returns-then-not-is_row
returns-then-not-is_row c =
    let rows = c.args.self.now.callees in
    let i = c.loop-row.row-index in
    let items = c.as_slice-row-items.result.now in
    let same = row_read rows items i c.row-item.result c.as_slice.result.now c.as_slice-row-items.ensures c.loop-row-test.true c.row-item.is c.as_slice.ensures in
    let low = c.loop-row-test.true in let many = ap length c.as_slice-row-items.ensures in (
      λ no'. absurd (false≢true no'),
      λ all.
          absurd (true≢false
          (sym (c.is_row.ensures.1
          (subst (λ n. IsRow n c.as_slice.result.now) (sym c.len.ensures)
          (subst (IsRow (length rows)) (sym same) (all i (omega arith)))))
          ∙ c.if-not-is_row.true)),
    )

pub loop-row-preserved : goal.loop-row-preserved
loop-row-preserved c f low =
    let rows = c.args.self.now.callees in
    let i = c.loop-row.row-index in
    let items = c.as_slice-row-items.result.now in
    let same = row_read rows items i c.row-item.result c.as_slice.result.now c.as_slice-row-items.ensures c.loop-row-test.true c.row-item.is c.as_slice.ensures in
    ⊎_elim
    (λ before. c.loop-row.invariant f before)
    (λ here.
    let at : f ≡ i = omega arith in
    subst (λ k. IsRow (length rows) (callees rows k)) (sym at)
    (subst (IsRow (length rows)) same
    (subst (λ n. IsRow n c.as_slice.result.now) c.len.ensures (c.is_row.ensures.0 c.if-not-is_row.false))))
    (cases_lt f i)

pub returns : goal.returns
returns c =
    let many = ap length c.as_slice-row-items.ensures in
    let past = c.loop-row-test.false in
    (λ _ f low. c.loop-row.invariant f (omega arith), λ _. refl)
