use Rattle.std.proofs.Common.{sym, arith}
use Rattle.std.specs.HashMap.{get}
use Rattle.sc_base.proofs.KeyNumbers.{place_none, place_some}
use Rattle.sc_base.proofs.numbers.Numbers.number.Goals as goal

pub returns-in-None : goal.returns-in-None
returns-in-None g c =
    let place = place_none g.K.PartialEq.eq (get g.K.PartialEq.eq c.self.inside.index) c.self.inside.keys.items c.args.key.now c.self.invariant (sym c.in-None.ensures.value) in
    rw (← c.self.view_is) (omega (arith, c.len.ensures, place))

pub returns-in-Some : goal.returns-in-Some
returns-in-Some g c =
    rw (← c.self.view_is)
    (place_some g.K.PartialEq.eq (get g.K.PartialEq.eq c.self.inside.index) c.self.inside.keys.items c.args.key.now c.in-Some.number.now c.self.invariant (sym c.in-Some.ensures.value))
