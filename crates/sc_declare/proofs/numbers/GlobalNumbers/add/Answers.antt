use Rattle.sc_declare.proofs.Keys.{key_added}
use Rattle.sc_declare.proofs.numbers.GlobalNumbers.add.Goals as goal

pub returns-clause-ok : goal.returns-clause-ok
returns-clause-ok c = rw (← c.self.view_is) (key_added c.self.inside.keys c.insert.new.self c.args.key c.in_ok-insert.ensures.ok)
