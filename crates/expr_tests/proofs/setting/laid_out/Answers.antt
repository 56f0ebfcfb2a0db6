use Rattle.std.specs.Prelude.{[]}
use Rattle.sc_world.specs.Programs.{source}
use Rattle.expr_tests.proofs.Layouts.{closed_if}
use Rattle.expr_tests.proofs.setting.laid_out.Goals as goal

pub returns : goal.returns
returns c =
    let s = source c.args.program.now 0 [] [] 1 2 in
    closed_if s c.places.result c.places.ensures (c.layouts_are_closed.ensures s)
