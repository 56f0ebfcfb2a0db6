-- A text can be cut in one way only; and what is asked of any layout holds of that of a function.
use Rattle.text_laws.proofs.Told.{told}
use Rattle.text_laws.proofs.Plain.{plain}
use Rattle.text_laws.proofs.laws.texts_tell_ways.Goals as goal

pub returns-clause-any : goal.returns-clause-any
returns-clause-any c x a b h la lb e = told x a b h la lb e

pub returns-clause-laid : goal.returns-clause-laid
returns-clause-laid c s x a b laid names la lb e =
    told x a b (plain s x (c.locations_are_right.ensures s x.layout laid) names) la lb e
