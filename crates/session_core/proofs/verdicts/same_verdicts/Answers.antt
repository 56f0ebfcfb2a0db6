-- One more verdict is equal, or the first that is not tells the lists apart.
use Rattle.std.proofs.Common.{◌<◌, length, sym, ◌∙◌, arith}
use Rattle.std.proofs.lemmas.Bool.{true≢false, false≢true}
use Rattle.std.specs.Arc.{arc_value}
use Rattle.session_core.proofs.Equal.{one_more_seen, at_same_seen}
use Rattle.session_core.proofs.verdicts.same_verdicts.Goals as goal

pub returns-then-not-same_verdict : goal.returns-then-not-same_verdict
returns-then-not-same_verdict c =
    let many = c.loop-k.invariant.0 in
    let low : c.loop-k.k < length c.args.one.now = omega arith in
    let low' : c.loop-k.k < length c.args.other.now = omega (arith, many) in (
      λ no. absurd (false≢true no),
      λ e.
          absurd (true≢false
          (sym (c.same_verdict.ensures.1
          (at_same_seen arc_value c.args.one.now c.args.other.now c.loop-k.k c.index-one-k.result c.index-other-k.result
          c.deref.result.now c.deref-in-loop-k.result.now low low' c.index-one-k.is c.index-other-k.is c.deref.ensures
          c.deref-in-loop-k.ensures e))
          ∙ c.if-not-same_verdict.true)),
    )

pub loop-k-preserved : goal.loop-k-preserved
loop-k-preserved c =
    let many = c.loop-k.invariant.0 in
    let low : c.loop-k.k < length c.args.one.now = omega arith in
    let low' : c.loop-k.k < length c.args.other.now = omega (arith, many) in (
      many,
      one_more_seen arc_value c.args.one.now c.args.other.now c.loop-k.k c.index-one-k.result c.index-other-k.result
          c.deref.result.now c.deref-in-loop-k.result.now low low' c.index-one-k.is c.index-other-k.is c.deref.ensures
          c.deref-in-loop-k.ensures c.loop-k.invariant.1 (c.same_verdict.ensures.0 c.if-not-same_verdict.false),
    )
