use Rattle.std.specs.HashMap.{get}
use Rattle.sc_base.proofs.KeyNumbers.{numbered_front}
use Rattle.sc_base.proofs.numbers.Numbers.pop.Goals as goal

pub invariant_of-self-2 : goal.invariant_of-self-2
invariant_of-self-2 g c =
    numbered_front g.met.K.Eq.laws (get g.K.PartialEq.eq c.self.inside.index) (get g.K.PartialEq.eq c.remove.new.self) c.pop.new.self.items c.in_ok-key.key
    (rw c.in_ok-key.ensures.items at c.self.invariant) c.remove.ensures.updates.0
