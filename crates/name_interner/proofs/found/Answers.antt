use Rattle.name_interner.proofs.Interned.{found_among}
use Rattle.name_interner.proofs.found.Goals as goal

pub returns : goal.returns
returns c = found_among c.args.text.now c.args.texts.now.keys c.get_index_of.result c.get_index_of.ensures.index c.get_index_of.ensures.found c.get_index_of.ensures.within
