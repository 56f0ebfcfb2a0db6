use Rattle.std.proofs.Common.{◌∙◌}
use Rattle.sc_declare.proofs.Keys.{any_at}
use Rattle.sc_declare.proofs.numbers.GlobalNumbers.contains.Goals as goal

pub returns : goal.returns
returns c = rw (← c.self.view_is) (c.contains.ensures ∙ any_at c.args.key c.self.inside.keys)
