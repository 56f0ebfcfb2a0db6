-- Each variable in turn.
use Rattle.std.proofs.Common.{◌++◌, ◌∷◌, [], length, length-append, sym, subst, ap, ◌∙◌, arith}
use Rattle.sat_base.specs.Logic.{at}
use Rattle.sat_trail.specs.Decided.{IsDecision}
use Rattle.sat_trail.proofs.FollowLemmas.{collected}
use Rattle.sat_trail.proofs.decisions.collect.Goals as goal
use Rattle.sat_trail.proofs.decisions.collect.Goals.{in-Taken, in-Absent}

pub returns-in-Done : goal.returns-in-Done
returns-in-Done c = subst (λ t. IsDecision t c.decide_variable.new.trail) c.loop-var.invariant.same c.in-Done.ensures

pub loop-var-preserved : goal.loop-var-preserved
loop-var-preserved c =
    let old = c.args.trail.now in
    let values = c.loop-var.values.items in
    let before = c.loop-var.invariant in
    elim c.match-decide_variable.branch [
      | in-Taken w ↦
          let items = c.in_ok-push.ensures.items ∙ ap (λ v. values ++ v ∷ []) w.value-is in
          let more = collected old c.loop-var.trail c.decide_variable.new.trail values c.loop-var.var w.in-Taken.value before.same w.in-Taken.ensures before.size before.told in
          let size = ap length items ∙ length-append values (w.in-Taken.value ∷ []) in
          let so_far = before.size in
          record {
            same = more.0;
            size = omega (arith, size, so_far);
            told = λ f all x below. more.1 f all x below ∙ ap (λ xs. at xs x) (sym items);
          }
      | in-Absent w ↦
          let below = c.loop-var-test.true in
          let last = c.vars-var-end.ensures in
          let same = ap (λ t. t.vars) before.same in
          let past = w.in-Absent.ensures.1 in
          absurd (omega (arith, below, last, same, past))
    ]

pub returns : goal.returns
returns c =
    let before = c.loop-var.invariant in
    let size = before.size in
    let over = c.loop-var-test.false in
    let under = c.loop-var.auto.var-end in
    let last = c.vars-var-end.ensures in (
      before.same,
      record {
        size = omega (arith, size, over, under, last);
        told = λ f all x below. before.told f all x (omega (arith, below, over, last));
      },
    )
