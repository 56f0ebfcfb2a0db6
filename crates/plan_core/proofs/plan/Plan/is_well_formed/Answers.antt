-- The rows are ascending and inside, and then the rest is that the edges have no cycle.
use Rattle.std.proofs.Common.{◌≡◌, ◌^◌, ◌<◌, length, sym, ◌∙◌, arith, IsTrue, ◌↔◌}
use Rattle.std.proofs.lemmas.Bool.{true≢false, false≢true}
use Rattle.std.proofs.lemmas.Result.{IfOk-weaker}
use Rattle.plan_core.specs.Graph.{IsPlan}
use Rattle.plan_core.specs.Order.{HasNoCycle}
use Rattle.plan_core.proofs.Rows.{graph_from_rows, plan_from, rows_from_plan}
use Rattle.plan_core.proofs.plan.Plan.is_well_formed.Goals as goal

pub returns-then-not-has_rows : goal.returns-then-not-has_rows
returns-then-not-has_rows c = (
  λ no'. absurd (false≢true no'),
  λ plan.
      absurd (true≢false (sym (c.has_rows.ensures.1 (λ f low. rows_from_plan c.args.self.now.callees plan f)) ∙ c.if-not-has_rows.true)),
)

pub has_no_cycle-requires : goal.has_no_cycle-requires
has_no_cycle-requires c =
    let few : length c.args.self.now.callees < 2 ^ 32 = omega arith in
    graph_from_rows c.args.self.now.callees few (c.has_rows.ensures.0 c.if-not-has_rows.false)

pub returns : goal.returns
returns c =
    let rows = c.args.self.now.callees in
    let few : length rows < 2 ^ 32 = omega arith in
    IfOk-weaker c.has_no_cycle.result
    (λ answer. IsTrue answer ↔ HasNoCycle rows) (λ answer. IsTrue answer ↔ IsPlan rows)
    (λ answer both. (
      λ is. plan_from rows few (c.has_rows.ensures.0 c.if-not-has_rows.false) (both.0 is),
      λ plan. both.1 plan.acyclic,
    ))
    c.has_no_cycle.ensures
