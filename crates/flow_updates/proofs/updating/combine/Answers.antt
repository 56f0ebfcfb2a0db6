use Rattle.flow_fills.specs.Laid.{source_of}
use Rattle.sc_flow.specs.Seen.{updating}
use Rattle.sc_world.specs.View.{type}
use Rattle.flow_updates.proofs.Combining.{combine_fits, right_kind}
use Rattle.flow_updates.proofs.updating.combine.Goals as goal

pub combined-requires-clause-fits : goal.combined-requires-clause-fits
combined-requires-clause-fits c =
    combine_fits (source_of c.args.laid.now) (updating c.args.updating.now) c.args.x.now c.args.y.now (type c.number_type-right.result) c.requires.can c.number_type-right.ensures

pub combined-requires-clause-right : goal.combined-requires-clause-right
combined-requires-clause-right c =
    right_kind (source_of c.args.laid.now) (updating c.args.updating.now) c.args.x.now c.args.y.now (type c.number_type-right.result) c.requires.can c.number_type-right.ensures
