-- What contracts see of a formula with the steps that are to refute it.

use Rattle.std.specs.Prelude.{ℕ, List}
use Rattle.std.specs.List.{All}
use Rattle.sat_base.specs.declared.literal.Lit.{Lit}
use Rattle.sat_base.specs.declared.certificate.Step.{Step}
use Rattle.sat_base.specs.declared.certificate.Step.TheVariants.{Add, Drop}
use Rattle.sat_base.specs.Logic.{LitsBelow, ClausesBelow}

pub record Contents : Type 0 where
  pub vars : ℕ
  pub clauses : List (List Lit)
  pub steps : List Step

-- the variables of this step are below n
abbrev pub StepBelow : ℕ → Step → Type 0
StepBelow n (Add c) = LitsBelow n c
StepBelow n (Drop c) = LitsBelow n c

-- all variables are below the number of variables
pub record IsBelow (contents : Contents) : Type 0 where
  pub formula : ClausesBelow contents.vars contents.clauses
  pub proof : All (StepBelow contents.vars) contents.steps
