use Rattle.std.proofs.Common.{◌-◌, ◌<◌, ◌≤◌, ℕ, List, length, take, drop, get_or, subst, ap, ◌∙◌}
use Rattle.sc_tree.specs.declared.token.Token.{Token}
use Rattle.sc_parse_unit.proofs.FileSegments.{next_segment, next_cuts, all_read}
use Rattle.sc_parse_unit.proofs.segments.unit.Goals as goal

pub loop-end-preserved : goal.loop-end-preserved
loop-end-preserved c =
    let same = c.as_slice-end-items.ensures in
    let below : c.loop-end.end-index < length c.args.tokens.now.ends = subst (λ (es : List ℕ). c.loop-end.end-index < length es) same c.loop-end-test.true in
    let end = ap (λ (es : List ℕ). get_or es c.loop-end.end-index 0) same in
    let cut = c.new-left.ensures ∙ ap (λ (ts : List Token). take
    (get_or c.as_slice-end-items.result.now c.loop-end.end-index 0 - c.loop-end.from) (drop c.loop-end.from ts)) c.as_slice-all.ensures
    ∙ ap (λ (n : ℕ). take (n - c.loop-end.from) (drop c.loop-end.from c.args.tokens.now.list)) end in
    rw (end) (
      next_segment c.loop-end.segments c.push.new.self c.loop-end.types c.segment_of.new.types c.args.tokens.now.list c.new-left.result
          c.loop-end.from c.loop-end.end-index c.args.tokens.now.ends _
          below c.loop-end.invariant.0 cut c.in_ok-segment_of.ensures c.in_ok-push.ensures.ok,
      next_cuts c.loop-end.from _ c.loop-end.end-index c.args.tokens.now.ends below c.loop-end.invariant.1,
    )

pub returns-clause-segments : goal.returns-clause-segments
returns-clause-segments c =
    let same = c.as_slice-end-items.ensures in
    let done : length c.args.tokens.now.ends ≤ c.loop-end.end-index = subst (λ (es : List ℕ). length es ≤ c.loop-end.end-index) same c.loop-end-test.false in
    all_read c.loop-end.segments c.loop-end.types c.args.tokens.now.list c.loop-end.from c.loop-end.end-index c.args.tokens.now.ends done c.loop-end.invariant.0
