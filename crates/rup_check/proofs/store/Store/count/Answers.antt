-- As many clauses as references.
use Rattle.std.proofs.Common.{length, ap, arith}
use Rattle.rup_check.proofs.StoredLemmas.{length-entries}
use Rattle.rup_check.proofs.store.Store.count.Goals as goal

pub returns : goal.returns
returns c =
    let size = ap length c.self.view_is in
    let same = length-entries c.self.inside.pool c.self.inside.table.items in
    let len = c.len.ensures in
    omega (arith, size, same, len, c.self.inside.table.ok.0)
