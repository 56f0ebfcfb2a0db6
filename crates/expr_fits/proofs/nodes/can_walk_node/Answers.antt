use Rattle.std.proofs.Common.{sym, ◌∙◌}
use Rattle.run_values.specs.Seen.{want_of}
use Rattle.sc_flow.specs.Seen.{expression}
use Rattle.expr_fits.specs.Around.{source_of}
use Rattle.expr_fits.specs.Kept.{kinds_of}
use Rattle.expr_fits.proofs.Walking.{can_walk}
use Rattle.expr_fits.proofs.nodes.can_walk_node.Goals as goal

pub returns-clause-walks : goal.returns-clause-walks
returns-clause-walks c =
    λ passes.
    can_walk c.args.around.now (kinds_of c.args.kinds.now) (want_of c.args.want) (expression (source_of c.args.around.now).structs c.args.e.now)
    (sym c.tested.ensures ∙ passes)
