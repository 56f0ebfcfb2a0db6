use Rattle.sc_declare.proofs.Keys.{keys_kept}
use Rattle.sc_declare.proofs.numbers.GlobalNumbers.truncate.Goals as goal

pub returns : goal.returns
returns c = rw (← c.self.view_is) (keys_kept c.args.count c.self.inside.keys c.truncate.new.self c.truncate.ensures)
