use Rattle.gl_store.proofs.MarkLemmas.{anywhere_there, anywhere_past}
use Rattle.gl_store.proofs.marks.flag_or_never.Goals as goal

pub returns-then-at-locations : goal.returns-then-at-locations
returns-then-at-locations c = anywhere_there c.args.net.now c.args.locations.now c.args.at c.args.flag _ c.requires c.flag_at.ensures

pub returns-else-at-locations : goal.returns-else-at-locations
returns-else-at-locations c = anywhere_past c.args.net.now c.args.locations.now c.args.at c.args.flag _ c.if-at-locations.false c.constant.ensures
