use Rattle.tr_flow.proofs.taken.node_constants_fit.Goals as goal

pub returns-in-Over : goal.returns-in-Over
returns-in-Over c = rw c.in-Over.is (c.constants_fit_over.ensures c.in-Over.field-1 c.in-Over.field-2)
