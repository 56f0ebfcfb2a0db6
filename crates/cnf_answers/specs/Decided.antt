-- What is found of a formula.

use Rattle.std.specs.Prelude.{◌≡◌, ℕ, List}
use Rattle.sat_base.specs.declared.literal.Lit.{Lit}
use Rattle.sat_base.specs.declared.certificate.Step.{Step}
use Rattle.sat_base.specs.Certificates.{IsCertificate}
use Rattle.drat_text.specs.Certificate.{Contents}
use Rattle.drat_text.specs.Reading.{spelled, Spells}
use Rattle.cnf_answers.specs.declared.deciding.Decided.{Decided}
use Rattle.cnf_answers.specs.declared.deciding.Decided.TheVariants.{Model, NoModel}
use Rattle.cnf_answers.specs.declared.certifying.Certified.{Certified}
use Rattle.cnf_answers.specs.declared.certifying.Certified.TheVariants as certified
use Rattle.cnf_answers.specs.Models.{IsModel, HasNoModel}
use Rattle.cnf_answers.specs.Values.{values_text}

-- the text has the values of a model
abbrev pub ShowsModel : Contents → List ℕ → Type 0
ShowsModel formula text = (lits : List Lit) × IsModel formula.vars formula.clauses lits × (text ≡ values_text lits)

-- the text spells the formula with steps that are a certificate of it
pub record SpellsCertificate (formula : Contents) (text : List ℕ) : Type 0 where
  pub steps : List Step
  pub certificate : IsCertificate formula.clauses steps
  pub spells : spelled text ≡ Spells (record { vars = formula.vars; clauses = formula.clauses; steps = steps })

abbrev pub IsDecided : Contents → Decided → Type 0
IsDecided formula (Model text) = ShowsModel formula text.items
IsDecided formula NoModel = HasNoModel formula.clauses

abbrev pub IsCertified : Contents → Certified → Type 0
IsCertified formula (certified.Model text) = ShowsModel formula text.items
IsCertified formula (certified.Refuted text) = HasNoModel formula.clauses × SpellsCertificate formula text.items
