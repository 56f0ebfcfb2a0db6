use Rattle.flow_turns.proofs.temps.Temps.keep.Goals as goal

pub returns-else-index-clause-ok : goal.returns-else-index-clause-ok
returns-else-index-clause-ok c = c.keep_first.ensures.ok c.args.net.now c.args.when.at
