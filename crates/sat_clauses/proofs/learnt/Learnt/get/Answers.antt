-- The clause that the reference reads.
use Rattle.std.proofs.Common.{slice_get, ap, sym, ◌∙◌}
use Rattle.sat_clauses.proofs.LearntLemmas.{read_at}
use Rattle.sat_clauses.proofs.learnt.Learnt.get.Goals as goal

pub returns-in-Some : goal.returns-in-Some
returns-in-Some c =
    ap (λ es. slice_get es c.args.i) (sym c.self.view_is)
    ∙ read_at c.self.inside.pool c.self.inside.table.items c.args.i c.in-Some.r c.get.result.now
    (ap (λ es. slice_get es c.args.i) (sym c.as_slice.ensures.value) ∙ c.in-Some.ensures.found) c.get.ensures
