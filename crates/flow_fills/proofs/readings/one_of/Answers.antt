use Rattle.flow_fills.proofs.Merging.{one_counts}
use Rattle.flow_fills.proofs.readings.one_of.Goals as goal

pub returns-clause-ok : goal.returns-clause-ok
returns-clause-ok c =
    one_counts _ _ _ c.args.when.at c.in_ok-off.off.at c.args.new.now c.args.old.now c.in_ok-vals.vals.items c.in_ok-others.others.items _
    c.in_ok-vals.ensures.grown c.in_ok-others.ensures.grown c.in_ok-off.ensures.ok.value c.in_ok-vals.ensures.ok c.in_ok-others.ensures.ok c.in_ok-append.ensures.items
