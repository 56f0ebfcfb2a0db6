-- The literal is there.
use Rattle.std.proofs.Common.{sym, ◌∙◌}
use Rattle.sat_cdcl.proofs.ResolventLemmas.{takes_there}
use Rattle.sat_cdcl.proofs.resolvent.Resolvent.insert.Goals as goal

pub returns-then-is_some : goal.returns-then-is_some
returns-then-is_some c = takes_there c.place.result c.args.self.now c.args.lit c.place.ensures (sym c.is_some.ensures ∙ c.if-is_some.true)
