use Rattle.std.proofs.Common.{◌≡◌, List, rules, sym, subst}
use Rattle.sat_base.specs.declared.certificate.Step.{Step}
use Rattle.sat_base.specs.Certificates.{IsCertificate}
use Rattle.cnf_answers.proofs.ModelLemmas.{none_of, certificate_of}
use Rattle.cnf_answers.proofs.certifying.certify.Goals as goal

pub returns : goal.returns
returns c =
    let same : c.in_ok-solver.solver.clauses ≡ c.args.formula.now.clauses = search rules in
    let P : List Step → Type 0 = λ ss. IsCertificate c.args.formula.now.clauses ss in
    let whole = certificate_of _ _ _ _ _ c.in-NoModel.is same c.in_ok-solve_logged.ensures.certificate in (
      none_of _ _ _ _ _ c.in-NoModel.is same c.in_ok-solve_logged.ensures.answer,
      record {
        steps = c.steps.result.now;
        certificate = subst P (sym c.steps.ensures) whole;
        spells = c.in_ok-text-in-NoModel.ensures;
      },
    )
