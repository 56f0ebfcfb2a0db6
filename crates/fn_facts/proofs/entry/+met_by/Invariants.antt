use Rattle.fn_facts.proofs.entry.+met_by.Given as goal

abbrev pub decreases-met_by : goal.decreases-met_by
decreases-met_by l = l.most
