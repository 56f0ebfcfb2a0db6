use Rattle.std.proofs.Common.{refl}
use Rattle.sc_world.specs.View.{type}
use Rattle.flow_fills.proofs.Locals.{keep_cells_node}
use Rattle.flow_fills.proofs.giving.keep_cells.Goals as goal

pub returns-clause-ok : goal.returns-clause-ok
returns-clause-ok c =
    keep_cells_node _ _ _ _ _ (type c.args.giving.now.ctype.now) c.args.giving.now.slot c.args.giving.now.next c.args.here c.args.made _ c.args.before.now _
    c.in_ok-cells.ensures.grown c.in_ok-cells.ensures.ok refl refl c.in_ok-settle.ensures.ok
