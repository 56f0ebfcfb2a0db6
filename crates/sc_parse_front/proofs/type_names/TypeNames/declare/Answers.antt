use Rattle.sc_parse_front.proofs.Names.{name_declared}
use Rattle.sc_parse_front.proofs.type_names.TypeNames.declare.Goals as goal

pub returns-clause-ok : goal.returns-clause-ok
returns-clause-ok c = rw (← c.self.view_is) (name_declared c.self.inside.places c.insert.new.self c.args.name c.in_ok-insert.ensures.ok)
