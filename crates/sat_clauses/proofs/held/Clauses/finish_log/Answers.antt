-- The steps lead to clauses that refute, and the empty clause is added.
use Rattle.std.proofs.Common.{◌++◌, sym, subst, ◌∙◌}
use Rattle.sat_base.specs.Certificates.{IsCertificate}
use Rattle.sat_clauses.specs.Held.{clauses_of}
use Rattle.sat_clauses.specs.Certified.{units, IsRefuted}
use Rattle.sat_clauses.proofs.CertifiedLemmas.{finished_log}
use Rattle.sat_clauses.proofs.held.Clauses.finish_log.Goals as goal

pub returns-clause-certificate : goal.returns-clause-certificate
returns-clause-certificate c =
    subst (λ s. IsCertificate (s.given ++ units c.args.assumed.now) c.push.new.self) c.self.view_is
    (finished_log (clauses_of c.self.inside.pool c.self.inside.given.items) c.self.inside.learnt c.self.inside.log c.in-Some.log c.push.new.self
    c.in_ok-empty.empty c.args.assumed.now (sym c.take.ensures.value ∙ c.in-Some.is) c.self.invariant.1
    (subst (λ s. IsRefuted s c.args.assumed.now) (sym c.self.view_is) c.requires) c.in_ok-push.ensures.ok c.in_ok-empty.ensures)
