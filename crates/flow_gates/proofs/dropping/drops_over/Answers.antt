use Rattle.flow_gates.proofs.Casting.{dropped_cast, dropped_convert}
use Rattle.flow_gates.proofs.dropping.drops_over.Goals as goal

pub returns-in-Cast : goal.returns-in-Cast
returns-in-Cast c = λ structs x y. dropped_cast structs c.args.e.now c.in-Cast.a c.get.result.now _ x y c.in-Cast.is c.get.ensures (c.are_void.ensures structs)

pub returns-in-Convert : goal.returns-in-Convert
returns-in-Convert c = λ structs x y.
    dropped_convert structs c.args.e.now c.in-Convert.a c.get-in-Convert.result.now _ x y c.in-Convert.is c.get-in-Convert.ensures (c.are_void-in-Convert.ensures structs)
