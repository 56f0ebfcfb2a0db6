use Rattle.std.proofs.Common.{sym, ◌∙◌}
use Rattle.sc_world.specs.View.{type}
use Rattle.expr_fits.specs.Around.{source_of}
use Rattle.tr_walk.proofs.Made.{function_truth}
use Rattle.tr_walk.proofs.leaves.function_to.Goals as goal

pub returns-in_ok-made-clause-ok : goal.returns-in_ok-made-clause-ok
returns-in_ok-made-clause-ok c =
    function_truth (source_of c.args.around.now) c.truth.new.net c.truth.new.net (type c.args.from.now) (type c.args.to.now) c.args.x.now c.in_ok-made.made c.in_ok-some.some.at
    c.requires.function (sym c.is_bool.ensures ∙ c.if-is_bool.true) c.requires.kind c.in_ok-some.ensures.ok c.in_ok-made.ensures
