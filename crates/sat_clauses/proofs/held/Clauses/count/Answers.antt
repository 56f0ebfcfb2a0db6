-- As many clauses as references.
use Rattle.std.proofs.Common.{length, ap, arith}
use Rattle.sat_clauses.proofs.HeldLemmas.{length-clauses_of}
use Rattle.sat_clauses.proofs.held.Clauses.count.Goals as goal

pub returns : goal.returns
returns c =
    let size = ap (λ s. length s.given) c.self.view_is in
    let same = length-clauses_of c.self.inside.pool c.self.inside.given.items in
    let len = c.len.ensures in
    omega (arith, size, same, len, c.self.inside.given.ok.0)
