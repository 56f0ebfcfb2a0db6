use Rattle.std.proofs.Common.{◌∙◌}
use Rattle.sc_fill.proofs.queue.Queue.len.Goals as goal

pub returns : goal.returns
returns g c = rw (← c.self.view_is) (c.len.ensures ∙ c.self.inside.queue.ok.0)
