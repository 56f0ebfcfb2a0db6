-- What the look says.
use Rattle.rup_check.proofs.PropagatingLemmas.{extends_refl}
use Rattle.rup_check.proofs.propagate.visit_entry.Goals as goal

pub returns-then-index-len : goal.returns-then-index-len
returns-then-index-len c = record { extends = extends_refl _ c.args.marks.now; conflict = tt }

pub returns-then-is_settled : goal.returns-then-is_settled
returns-then-is_settled c = record { extends = extends_refl _ c.args.marks.now; conflict = tt }
