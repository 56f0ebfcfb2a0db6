use Rattle.sc_world.specs.Programs.{source}
use Rattle.interp_tests.proofs.Laying.{closed_if}
use Rattle.interp_tests.proofs.runs.laid_out.Goals as goal

pub returns : goal.returns
returns c =
    let g = c.args.given in
    let s = source g.program.now g.function g.kept.now g.verdicts.now 2 2 in
    closed_if s c.places.result c.places.ensures (c.layouts_are_closed.ensures s)
