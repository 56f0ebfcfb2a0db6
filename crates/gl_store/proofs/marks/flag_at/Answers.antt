use Rattle.gl_store.proofs.MarkLemmas.{flag_there}
use Rattle.gl_store.proofs.marks.flag_at.Goals as goal

pub returns : goal.returns
returns c = flag_there _ c.args.at _ c.args.flag _ c.requires c.gate_of_flag.ensures
