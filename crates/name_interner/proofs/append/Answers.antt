use Rattle.std.proofs.Common.{◌∙◌}
use Rattle.name_interner.proofs.Interned.{insert_key-absent, insert_index-absent}
use Rattle.name_interner.proofs.append.Goals as goal

pub returns-clause-place : goal.returns-clause-place
returns-clause-place c = c.in_ok-at.ensures.index ∙ insert_index-absent c.args.texts.now.keys c.args.text c.requires

pub returns-clause-texts : goal.returns-clause-texts
returns-clause-texts c = c.in_ok-at.ensures.keys ∙ insert_key-absent c.args.texts.now.keys c.args.text c.requires
