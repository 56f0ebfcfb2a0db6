-- The first callee that is no function of the plan, or does not ascend, is what refuses a row.
use Rattle.std.proofs.Common.{refl, arith}
use Rattle.std.proofs.lemmas.Bool.{false≢true}
use Rattle.plan_core.proofs.Rows.{not_inside, row_from}
use Rattle.plan_core.proofs.plan.is_row.Goals as goal

pub returns-then-row-k : goal.returns-then-row-k
returns-then-row-k c =
    (λ no'. absurd (false≢true no'), λ is. absurd (not_inside c.args.count c.args.row.now c.loop-k.k c.loop-k-test.true c.if-row-k.true is))

pub returns : goal.returns
returns c = (
  λ _. row_from c.args.count c.args.row.now
      (λ k low. c.loop-k.invariant.inside k (omega arith))
      (λ k low. c.loop-k.invariant.rising k (omega arith)),
  λ _. refl,
)
