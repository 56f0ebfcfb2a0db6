use Rattle.sc_check.proofs.walks.second_walk.Goals as goal

pub returns : goal.returns
returns c = rw c.left_of-structs.ensures.structs at (rw c.left_of-structs.ensures.records at c.walk_behind.ensures)
