use Rattle.std.proofs.Common.{◌≡◌, ℕ, true, arith, get_or, length, ap, sym, ◌∙◌, subst, below_more}
use Rattle.plan_core.specs.Graph.{callees}
use Rattle.summary_db.specs.Views.{member, looked, Looks}
use Rattle.summary_db.specs.Passes.{view}
use Rattle.summary_db.proofs.Laying.{member_get}
use Rattle.summary_db.proofs.Jobs.{looks_again, looked_looks}
use Rattle.summary_db.proofs.Calls_kept.{word_from_yes, word_from_no, seen_now, member_index}
use Rattle.summary_db.proofs.db.Db.waits_for.Goals as goal

pub published-requires-clause-inside : goal.published-requires-clause-inside
published-requires-clause-inside g c κs within =
    let d = c.args.self.now in let xs = c.callees_of-callees.result.now in let i = c.loop-callee.callee-index in
    d.laid.inside c.args.function (get_or xs i 0) (subst (λ ys. member (get_or xs i 0) ys ≡ true) c.callees_of-callees.ensures (member_get xs i 0 c.loop-callee-test.true))

pub loop-callee-preserved : goal.loop-callee-preserved
loop-callee-preserved g c =
    let xs = c.callees_of-callees.result.now in let i = c.loop-callee.callee-index in let x = get_or xs i 0 in
    let found = c.published.ensures.found in
    let old = view c.loop-callee.pass in
    let step : Looks old (view c.published.new.pass) = subst (Looks old) (sym found.2) (looked_looks x found.0 old) in
    let two = word_from_yes found.0 c.published.result found.1 c.in-Yes.is in
    let here : member x (view c.published.new.pass).seen ≡ true = ap (λ w. member x w.seen) found.2 ∙ seen_now x found.0 old two in (
      c.published.ensures.pass,
      looks_again (view c.args.pass.now) old (view c.published.new.pass) c.loop-callee.invariant.1 step,
      below_more (λ k. member (get_or (callees c.args.self.now.rows c.args.function) k 0) (view c.published.new.pass).seen ≡ true) i
          (λ k low. step.seen (get_or (callees c.args.self.now.rows c.args.function) k 0) (c.loop-callee.invariant.2 k low))
          (subst (λ ys. member (get_or ys i 0) (view c.published.new.pass).seen ≡ true) c.callees_of-callees.ensures here),
    )

pub returns-in-No-clause-waits : goal.returns-in-No-clause-waits
returns-in-No-clause-waits g c =
    let xs = c.callees_of-callees.result.now in let i = c.loop-callee.callee-index in let x = get_or xs i 0 in
    let found = c.published.ensures.found in
    let r = word_from_no found.0 c.in-No.found c.published.result found.1 c.in-No.is in
    let same = r.0 in let small = r.1 in
    let before = c.loop-callee.invariant.1.finds in let after = ap (λ w. w.finds) found.2 in (
      subst (λ ys. member x ys ≡ true) c.callees_of-callees.ensures (member_get xs i 0 c.loop-callee-test.true),
      omega arith,
      ap (λ w. w.place) found.2,
      ap (λ w. w.word) found.2 ∙ sym same,
      omega arith,
    )

pub returns-clause-seen : goal.returns-clause-seen
returns-clause-seen g c h has =
    let xs = c.callees_of-callees.result.now in
    let r = member_index (callees c.args.self.now.rows c.args.function) h has in
    let low = r.1 in let high = c.loop-callee-test.false in let e = ap length c.callees_of-callees.ensures in
    subst (λ (k : ℕ). member k (view c.loop-callee.pass).seen ≡ true) r.2 (c.loop-callee.invariant.2 r.0 (omega arith))
