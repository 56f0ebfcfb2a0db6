-- Equal lists have equal parts, and equal parts have equal lists.
use Rattle.std.proofs.Common.{ap}
use Rattle.fn_matter.specs.Words.{words}
use Rattle.fn_matter.specs.Matter.{Parts, parts_of, parts_tree}
use Rattle.fn_matter.proofs.Reading.{spelled}
use Rattle.fn_matter.proofs.Parts.{told_apart, tables_told}
use Rattle.fn_matter.proofs.laws.matters_tell_parts.Goals as goal

pub returns-clause-parts : goal.returns-clause-parts
returns-clause-parts c x y e = told_apart x y e

pub returns-clause-matters : goal.returns-clause-matters
returns-clause-matters c p q f g =
    (λ e. told_apart (parts_of p f) (parts_of q g) e, λ e. ap (λ (x : Parts). words (parts_tree x)) e)

pub returns-clause-tables : goal.returns-clause-tables
returns-clause-tables c p q e = tables_told p q e

pub returns-clause-written : goal.returns-clause-written
returns-clause-written c t ws = spelled t ws
