use Rattle.layout_base.specs.Seen.{layout_of}
use Rattle.tr_expr.proofs.Naming.{does_address}
use Rattle.tr_expr.proofs.names.addressed.Goals as goal

pub returns : goal.returns
returns c = does_address (layout_of c.args.layout.now.places.now) c.args.net.now c.args.origin c.place_of-place.result c.place_of-place.ensures
