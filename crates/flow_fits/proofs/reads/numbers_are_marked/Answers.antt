use Rattle.std.proofs.Common.{◌&&◌, ◌+◌, ◌-◌, map, sym, ◌∙◌, ap}
use Rattle.flow_graph.specs.Conditions.{InTemp}
use Rattle.flow_graph.specs.Growing.{numbers}
use Rattle.flow_exits.specs.Marks.{marked}
use Rattle.flow_fits.specs.Voids.{each_temp}
use Rattle.flow_fits.proofs.Marking.{numbers_first}
use Rattle.flow_fits.proofs.reads.numbers_are_marked.Goals as goal

pub loop-k-preserved : goal.loop-k-preserved
loop-k-preserved c =
    let test = marked c.args.flags.now in
    let first = c.args.numbers.first in
    let count = c.args.numbers.count in
    let k = c.loop-k.k in
    let others = each_temp test (map InTemp (numbers (first + (k + 1)) (count - (k + 1)))) in
    sym (ap (λ b. b && others) (sym c.marked.ensures ∙ c.if-not-marked.false)) ∙ sym (numbers_first test first count k c.loop-k-test.true)
    ∙ c.loop-k.invariant
