use Rattle.sc_parse_front.proofs.Names.{names_kept}
use Rattle.sc_parse_front.proofs.type_names.TypeNames.forget_beyond.Goals as goal

pub returns : goal.returns
returns c = rw (← c.self.view_is) (names_kept c.args.count c.self.inside.places c.truncate.new.self c.truncate.ensures)
