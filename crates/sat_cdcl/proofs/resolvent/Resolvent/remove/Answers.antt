-- The others are there still.
use Rattle.std.proofs.Common.{subst}
use Rattle.sat_cdcl.specs.Resolvents.{Leaves}
use Rattle.sat_cdcl.proofs.resolvent.Resolvent.remove.Goals as goal

pub returns-then-recent : goal.returns-then-recent
returns-then-recent c = subst (λ xs. Leaves xs c.take_out.new.lits.items c.args.place) c.self.view_is c.take_out.ensures

pub returns-else-recent : goal.returns-else-recent
returns-else-recent c = subst (λ xs. Leaves xs c.take_out.new.lits.items c.args.place) c.self.view_is c.take_out.ensures
