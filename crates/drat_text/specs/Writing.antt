-- The text of a certificate, as it is written: the header, each clause and each step have a line of their own, with
-- one space behind each word but the last.

use Rattle.std.specs.Prelude.{◌≤◌, ℕ, ◌+◌, List, [], ◌∷◌, ◌++◌, length, codes, decimal, if◌then◌else◌}
use Rattle.sat_base.specs.declared.literal.Lit.{Lit}
use Rattle.sat_base.specs.declared.certificate.Step.{Step}
use Rattle.sat_base.specs.declared.certificate.Step.TheVariants.{Add, Drop}
use Rattle.drat_text.specs.Numbers.{greatest}
use Rattle.drat_text.specs.Certificate.{Contents, IsBelow}

-- variables count from 1 in the text
abbrev pub lit_word : Lit → List ℕ
lit_word l = (if l.neg then codes "-" else []) ++ decimal (l.var + 1)

-- the literals, and the `0` that ends the clause
abbrev pub lits_text : List Lit → List ℕ
lits_text [] = codes "0\n"
lits_text (l ∷ ls) = lit_word l ++ (codes " " ++ lits_text ls)

abbrev pub clauses_text : List (List Lit) → List ℕ
clauses_text [] = []
clauses_text (c ∷ cs) = lits_text c ++ clauses_text cs

abbrev pub step_text : Step → List ℕ
step_text (Add c) = lits_text c
step_text (Drop c) = codes "d " ++ lits_text c

abbrev pub steps_text : List Step → List ℕ
steps_text [] = []
steps_text (s ∷ ss) = step_text s ++ steps_text ss

abbrev pub header_text : (vars count : ℕ) → List ℕ
header_text vars count = codes "p cnf " ++ (decimal vars ++ (codes " " ++ (decimal count ++ codes "\n")))

unfoldable pub text_of : Contents → List ℕ
text_of contents =
    header_text contents.vars (length contents.clauses)
    ++ (clauses_text contents.clauses ++ (codes "c drat\n" ++ steps_text contents.steps))

-- a certificate that has a text: the numbers are not too great, and all variables are below their number
pub record HasText (contents : Contents) : Type 0 where
  pub vars : contents.vars ≤ greatest
  pub count : length contents.clauses ≤ greatest
  pub below : IsBelow contents
