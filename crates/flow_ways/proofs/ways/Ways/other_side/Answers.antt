use Rattle.std.proofs.Common.{◌||◌, sym, ◌∙◌, ap, arith}
use Rattle.flow_ways.proofs.WayLemmas.{split_read, or_comm}
use Rattle.flow_ways.proofs.ways.Ways.other_side.Goals as goal

pub returns-then-split-way-clause-sides : goal.returns-then-split-way-clause-sides
returns-then-split-way-clause-sides c = λ v all s.
    ap (λ g. v g || v c.index-split.result.now.miss.at) (sym c.if-split-way.true)
    ∙ split_read v c.args.self.now.splits.items c.args.way.split c.index-split.result.now s c.index-split.ensures (omega arith) all

pub returns-then-split-way-2-clause-sides : goal.returns-then-split-way-2-clause-sides
returns-then-split-way-2-clause-sides c = λ v all s.
    ap (λ g. v g || v c.index-split.result.now.hit.at) (sym c.if-split-way-2.true)
    ∙ (or_comm (v c.index-split.result.now.miss.at) (v c.index-split.result.now.hit.at)
    ∙ split_read v c.args.self.now.splits.items c.args.way.split c.index-split.result.now s c.index-split.ensures (omega arith) all)
