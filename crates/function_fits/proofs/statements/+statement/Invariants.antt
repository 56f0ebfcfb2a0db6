use Rattle.std.proofs.Common.{◌≡◌, drop}
use Rattle.function_fits.specs.Functions.{statements_fit}
use Rattle.function_fits.specs.Laid.{source_of, layout_of, stms_of}
use Rattle.function_fits.proofs.statements.+statement.Given as goal

-- the items from there on fit
abbrev pub invariant-statements_fit-loop-x : goal.invariant-statements_fit-loop-x
invariant-statements_fit-loop-x l =
    statements_fit (source_of l.laid) (layout_of l.laid) (stms_of l.laid (drop l.x-index l.xs))
    ≡ statements_fit (source_of l.fn.laid) (layout_of l.fn.laid) (stms_of l.fn.laid l.fn.xs)
