use Rattle.sc_fill.proofs.Front.{popped}
use Rattle.sc_fill.proofs.queue.Queue.pop.Goals as goal

pub returns : goal.returns
returns g c =
    rw (← c.self.view_is) (popped c.self.inside.queue.items c.pop_front.new.self.items c.self.inside.queue.len c.pop_front.new.self.len c.pop_front.result
    c.self.inside.queue.ok.0 c.pop_front.new.self.ok.0 c.pop_front.ensures.items c.pop_front.ensures.cases)
