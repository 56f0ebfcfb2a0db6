use Rattle.sc_fill.proofs.Front.{first_is}
use Rattle.sc_fill.proofs.queue.Queue.first.Goals as goal

pub returns : goal.returns
returns g c =
    rw (← c.self.view_is) (first_is c.self.inside.queue.items c.self.inside.queue.len c.front.result c.self.inside.queue.ok.0 c.front.ensures.variant c.front.ensures.lookup)
