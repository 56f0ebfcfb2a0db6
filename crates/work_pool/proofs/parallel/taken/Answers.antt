-- The outputs of all functions were moved to the list, in order.
use Rattle.std.proofs.Common.{sym, ◌∙◌, arith}
use Rattle.std.proofs.lemmas.List.{take_all}
use Rattle.summary_db.specs.Ends.{outputs}
use Rattle.work_pool.proofs.Made.{outputs_moved}
use Rattle.work_pool.proofs.parallel.taken.Goals as goal

pub returns-clause-outputs : goal.returns-clause-outputs
returns-clause-outputs g c =
    let inv = c.loop-function.invariant in
    let all = outputs c.args.closed.now in
    let many = c.requires.count.0 in
    outputs_moved (g.W.Work.defined c.args.work.now) c.loop-function.list.items all c.args.count
    (inv.moved ∙ take_all c.loop-function.function all (omega arith)) (sym c.requires.count.0) c.requires.outputs
