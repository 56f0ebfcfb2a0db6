use Rattle.std.proofs.Common.{◌≡◌, ◌∙◌, ◌∷◌, refl, arith}
use Rattle.drat_text.proofs.BelowLemmas.{begun_within, taken_within}
use Rattle.drat_text.proofs.LineLemmas.{lines_counted, lines_more}
use Rattle.drat_text.proofs.reading.read.Goals as goal

pub loop-line-init : goal.loop-line-init
loop-line-init c = record {
  spelled = rw (c.new-reader.ensures, c.lines-lines.ensures) refl;
  counted = rw c.lines-lines.ensures (let few = lines_counted c.args.bytes.now in omega arith);
  within = rw c.new-reader.ensures begun_within;
}

pub loop-line-preserved : goal.loop-line-preserved
loop-line-preserved c =
    let before = c.loop-line.invariant.spelled in
    let cut : c.loop-line.lines ≡ c.in-Some.line.now ∷ c.next.new.self = c.in-Some.ensures in
    record {
      spelled = (rw cut at before) ∙ lines_more c.loop-line.passed _ _ _ _ c.in-Ok.ensures;
      counted = (let few = rw cut at c.loop-line.invariant.counted in omega arith);
      within = taken_within _ _ _ c.in-Ok.ensures c.loop-line.invariant.within;
    }
