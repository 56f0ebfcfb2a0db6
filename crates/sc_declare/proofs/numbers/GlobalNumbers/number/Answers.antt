use Rattle.std.proofs.Common.{◌∙◌}
use Rattle.sc_declare.proofs.Keys.{place_at}
use Rattle.sc_declare.proofs.numbers.GlobalNumbers.number.Goals as goal

pub returns : goal.returns
returns c = rw (← c.self.view_is) (c.number-number.ensures ∙ place_at c.args.key c.self.inside.keys)
