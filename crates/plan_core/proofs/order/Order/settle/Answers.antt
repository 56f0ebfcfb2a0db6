-- The first callee without a place is a function of the plan; where there is none, all have theirs.
use Rattle.std.proofs.Common.{◌<◌, ◌≤◌, length, get_or, sym, subst, ap}
use Rattle.std.proofs.lemmas.Result.{on_ok_weaker}
use Rattle.std.specs.List.{Contains}
use Rattle.plan_core.specs.Graph.{callees}
use Rattle.plan_core.specs.Order.{is_placed}
use Rattle.plan_core.proofs.Placing.{callee_inside, all_placed, settled_same}
use Rattle.plan_core.proofs.order.Order.settle.Goals as goal

pub wait-requires-clause-inside : goal.wait-requires-clause-inside
wait-requires-clause-inside c =
    let rows = c.args.plan.now.callees in
    subst (λ n. get_or c.callees_of-callees.result.now c.meet-met.result 0 < n) (sym c.meet-met.ensures.kept.waiting_many)
    (callee_inside rows c.callees_of-callees.result.now c.args.function c.meet-met.result c.requires.graph c.callees_of-callees.ensures c.if-met-callees.true).1

pub returns-then-met-callees-clause-settled : goal.returns-then-met-callees-clause-settled
returns-then-met-callees-clause-settled c =
    let rows = c.args.plan.now.callees in
    on_ok_weaker c.wait.result
    (λ settled turn.
    settled rows turn
    (callee_inside rows c.callees_of-callees.result.now c.args.function c.meet-met.result c.requires.graph c.callees_of-callees.ensures c.if-met-callees.true).0)
    c.wait.ensures.settled

pub returns-then-met-callees-clause-others : goal.returns-then-met-callees-clause-others
returns-then-met-callees-clause-others c =
    let rows = c.args.plan.now.callees in
    let s = c.args.self.now in
    let m = c.meet-met.new.self in
    let same = c.meet-met.ensures.same in
    on_ok_weaker c.wait.result
    (λ others turn f low settled.
    others rows turn f
    (settled_same rows s.placed.items m.placed.items s.waiting.items m.waiting.items s.order.items m.order.items turn f
    (ap (λ v. v.items) same.0) (ap (λ v. v.items) same.1) (ap (λ v. v.items) same.2) settled))
    c.wait.ensures.others

pub returns-clause-kept : goal.returns-clause-kept
returns-clause-kept c =
    let rows = c.args.plan.now.callees in
    let m = c.meet-met.new.self in
    let few : length (callees rows c.args.function) ≤ c.meet-met.result =
    subst (λ xs. length xs ≤ c.meet-met.result) c.callees_of-callees.ensures c.if-met-callees.false in
    on_ok_weaker c.place.result
    (λ kept.
    kept rows c.meet-met.ensures.kept
    (all_placed m.placed.items (callees rows c.args.function) c.meet-met.result few c.meet-met.ensures.placed))
    c.place.ensures.kept

pub returns-clause-others : goal.returns-clause-others
returns-clause-others c =
    let rows = c.args.plan.now.callees in
    let s = c.args.self.now in
    let m = c.meet-met.new.self in
    let same = c.meet-met.ensures.same in
    on_ok_weaker c.place.result
    (λ others turn f low settled.
    others rows turn f (subst (λ v. turn ≤ length v.items) (sym same.2) low)
    (settled_same rows s.placed.items m.placed.items s.waiting.items m.waiting.items s.order.items m.order.items turn f
    (ap (λ v. v.items) same.0) (ap (λ v. v.items) same.1) (ap (λ v. v.items) same.2) settled))
    c.place.ensures.others
