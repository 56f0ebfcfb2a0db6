use Rattle.std.proofs.Common.{ap}
use Rattle.gate_rows.specs.Sought.{is_side}
use Rattle.gate_stands.proofs.Items.{is_lock_row}
use Rattle.gate_stands.proofs.locks.lock_row.Goals as goal

pub returns-clause-ok : goal.returns-clause-ok
returns-clause-ok c =
    let q = c.sought_row-sought.ensures in
    is_lock_row c.has_row.new.net c.sought_row-sought.result c.args.given.now c.args.before.now c.args.after.now c.args.count c.args.outcome c.args.rows.now _
    c.in_ok-r.ensures.ok q.given q.outcome (λ v x. ap (λ s. is_side v s x) q.before) (λ v x. ap (λ s. is_side v s x) q.after)
