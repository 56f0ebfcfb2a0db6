-- A kept value, and a number for what holds or not.
use Rattle.std.proofs.Common.{ℕ, subst}
use Rattle.gate_values.specs.Values.{IsNumber}
use Rattle.sc_flow.specs.Seen.{truth}
use Rattle.sc_world.specs.Tree.{int_bits}
use Rattle.sc_world.specs.View.{type}
use Rattle.run_values.specs.Seen.{want_of}
use Rattle.expr_fits.specs.Around.{source_of}
use Rattle.tr_walk.proofs.Arms as arms
use Rattle.tr_walk.proofs.nodes.walk_node.Goals as goal

pub returns-in_ok-made-in-Temp-clause-ok : goal.returns-in_ok-made-in-Temp-clause-ok
returns-in_ok-made-in-Temp-clause-ok c =
    rw c.in-Temp.is
    (arms.walks_temp c.args.around.now c.args.net.now (want_of c.args.want) c.in-Temp.n _ _ _ _ c.requires.ready (rw c.in-Temp.is at c.requires.can) c.in_ok-made-in-Temp.ensures)

pub returns-in_ok-made-in-Truth-clause-ok : goal.returns-in_ok-made-in-Truth-clause-ok
returns-in_ok-made-in-Truth-clause-ok c =
    rw c.in-Truth.is
    (arms.walks_number c.args.around.now c.args.net.now (want_of c.args.want) (truth c.in-Truth.holds) _ _ _ _ c.requires.ready (rw c.in-Truth.is at c.requires.can)
    (subst (λ (n : ℕ). IsNumber c.args.net.now n (int_bits (source_of c.args.around.now).widths (type c.in-Truth.t.now)) c.in_ok-made-in-Truth.made) c.number_for.ensures
    c.in_ok-made-in-Truth.ensures))
