use Rattle.std.proofs.Common.{◌≡◌, drop}
use Rattle.function_fits.specs.Expressions.{all_fit}
use Rattle.function_fits.specs.Laid.{arguments_of, layout_of}
use Rattle.function_fits.proofs.expressions.+expression.Given as goal

-- the arguments from there on fit
abbrev pub invariant-all_fit-loop-e : goal.invariant-all_fit-loop-e
invariant-all_fit-loop-e l =
    all_fit (layout_of l.laid) (arguments_of l.laid (drop l.e-index l.args))
    ≡ all_fit (layout_of l.fn.laid) (arguments_of l.fn.laid l.fn.args)
