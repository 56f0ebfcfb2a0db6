use Rattle.std.proofs.Common.{◌+◌, ◌-◌, ◌/◌, ap, arith}
use Rattle.line_marks.specs.declared.marks.Mark.{Mark}
use Rattle.line_marks.proofs.Cuts.{above_to, below_from}
use Rattle.line_marks.proofs.sources.count_above.Goals as goal

pub loop-low-preserved-then-marks-middle : goal.loop-low-preserved-then-marks-middle
loop-low-preserved-then-marks-middle c =
    let middle = c.loop-low.low + (c.loop-low.high - c.loop-low.low) / 2 in
    let at = ap (λ (m : Mark). m.at) c.index-marks-middle.is in (
      omega (arith, c.loop-low.invariant.0),
      omega (arith, c.loop-low.invariant.1),
      above_to c.args.marks.now c.args.line middle c.index-marks-middle.result c.requires (omega (arith, c.loop-low.invariant.1)) c.index-marks-middle.is (omega (arith, c.from.ensures, at)),
      c.loop-low.invariant.3,
    )

pub loop-low-preserved : goal.loop-low-preserved
loop-low-preserved c =
    let middle = c.loop-low.low + (c.loop-low.high - c.loop-low.low) / 2 in
    let at = ap (λ (m : Mark). m.at) c.index-marks-middle.is in (
      omega arith,
      omega (arith, c.loop-low.invariant.1),
      c.loop-low.invariant.2,
      below_from c.args.marks.now c.args.line middle c.index-marks-middle.result c.requires (omega (arith, c.loop-low.invariant.1)) c.index-marks-middle.is (omega (arith, c.from.ensures, at)),
    )
