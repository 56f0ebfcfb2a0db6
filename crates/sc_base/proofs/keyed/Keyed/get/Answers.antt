use Rattle.std.proofs.Common.{slice_get, ◌∙◌, ap}
use Rattle.sc_base.proofs.KeyedValues.{item_is, value_at}
use Rattle.sc_base.proofs.keyed.Keyed.get.Goals as goal

pub returns : goal.returns
returns g c =
    let keys = c.self.inside.keys in
    let values = c.self.inside.values.items in
    rw (← c.self.view_is)
    (item_is values c.number.result c.get.result (rw c.deref.ensures.value at c.get.ensures.lookup) ∙ ap (slice_get values) c.number.ensures
    ∙ value_at (g.K.PartialEq.eq c.args.key.now) keys values c.self.invariant)
