use Rattle.layout_base.specs.Seen.{ground_of, layout_of}
use Rattle.function_fits.proofs.Functions.{function_fits}
use Rattle.function_fits.proofs.function.function_fits.Goals as goal

pub returns-then-result_fits-clause-fits : goal.returns-then-result_fits-clause-fits
unfolding ground_of
returns-then-result_fits-clause-fits c h =
    function_fits (ground_of c.args.ground.now).source (layout_of c.args.layout.now.places.now)
    c.result_fits.result c.body_fits.result c.result_fits.ensures c.body_fits.ensures c.if-result_fits.true h
