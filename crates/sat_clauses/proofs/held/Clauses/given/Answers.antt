-- The clause that the reference reads.
use Rattle.std.proofs.Common.{length, slice_get, sym, ap, ◌∙◌, arith}
use Rattle.sat_clauses.specs.Held.{clauses_of}
use Rattle.sat_clauses.proofs.HeldLemmas.{match_by, length-clauses_of}
use Rattle.sat_clauses.proofs.held.Clauses.given.Goals as goal

pub returns : goal.returns
returns c =
    let is = ap (clauses_of c.self.inside.pool) c.as_slice.ensures.value ∙ ap (λ s. s.given) c.self.view_is in
    let size = ap length is in
    let same = length-clauses_of c.self.inside.pool c.as_slice.result.now in
    match_by c.clause_at.result _ _ _ _ (λ past. omega (arith, past, size, same)) (λ b found. ap (λ cs. slice_get cs c.args.i) (sym is) ∙ found) c.clause_at.ensures
