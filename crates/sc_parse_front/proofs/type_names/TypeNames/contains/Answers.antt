use Rattle.std.proofs.Common.{sym, ◌∙◌}
use Rattle.sc_parse_front.proofs.Names.{is_type_at}
use Rattle.sc_parse_front.proofs.type_names.TypeNames.contains.Goals as goal

pub returns : goal.returns
returns c = rw (← c.self.view_is) (c.contains.ensures ∙ sym (is_type_at c.self.inside.places c.args.name))
