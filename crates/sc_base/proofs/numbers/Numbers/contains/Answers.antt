use Rattle.std.proofs.Common.{◌∙◌}
use Rattle.std.specs.HashMap.{get}
use Rattle.sc_base.proofs.KeyNumbers.{found_there}
use Rattle.sc_base.proofs.numbers.Numbers.contains.Goals as goal

pub returns : goal.returns
returns g c =
    rw (← c.self.view_is)
    (c.contains_key.ensures ∙ found_there g.K.PartialEq.eq (get g.K.PartialEq.eq c.self.inside.index) c.self.inside.keys.items c.args.key.now c.self.invariant)
