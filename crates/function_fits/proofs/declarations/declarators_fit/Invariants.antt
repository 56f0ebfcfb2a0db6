use Rattle.std.proofs.Common.{◌≡◌, drop}
use Rattle.function_fits.specs.Functions.{declarators_fit}
use Rattle.function_fits.specs.Laid.{source_of, layout_of, decs_of}
use Rattle.function_fits.proofs.declarations.declarators_fit.Given as goal

-- the declarators from there on fit
abbrev pub invariant-loop-d : goal.invariant-loop-d
invariant-loop-d l =
    declarators_fit (source_of l.laid) (layout_of l.laid) (decs_of l.laid (drop l.d-index l.declarators))
    ≡ declarators_fit (source_of l.fn.laid) (layout_of l.fn.laid) (decs_of l.fn.laid l.fn.declarators)
