-- What the log shows after an answer, and what is tested at the end of a refutation.

use Rattle.std.specs.Prelude.{◌≡◌, List, ◌++◌}
use Rattle.std.specs.List.{Contains}
use Rattle.sat_base.specs.declared.literal.Lit.{Lit}
use Rattle.sat_base.specs.declared.solver.Answer.{Answer}
use Rattle.sat_base.specs.declared.solver.Answer.TheVariants.{Model, NoModel}
use Rattle.sat_base.specs.declared.certificate.Step.{Step}
use Rattle.sat_base.specs.Logic.{negation}
use Rattle.sat_base.specs.Certificates.{IsCertificate}
use Rattle.sat_clauses.specs.Certified.{units}

-- the log after an answer: after NoModel its steps are a certificate of the clauses with one clause of
-- one literal for each assumed literal, and after Model it is the old one
abbrev pub Certifies : Answer → List (List Lit) → List Lit → List Step → List Step → Type 0
Certifies Model clauses assumed old new = new ≡ old
Certifies NoModel clauses assumed old new = IsCertificate (clauses ++ units assumed) new

-- the negation of each of these literals is assumed
abbrev pub AreAssumedFalse : List Lit → List Lit → Type 0
AreAssumedFalse lits assumed = (q : Lit) → Contains lits q → Contains assumed (negation q)

-- a literal and its negation are both assumed
abbrev pub IsOpposed : List Lit → Type 0
IsOpposed assumed = (l : Lit) × Contains assumed l × Contains assumed (negation l)
