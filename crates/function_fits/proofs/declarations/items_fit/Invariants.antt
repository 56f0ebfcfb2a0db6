use Rattle.std.proofs.Common.{◌≡◌, drop}
use Rattle.function_fits.specs.Functions.{items_fit}
use Rattle.function_fits.specs.Laid.{source_of, layout_of, givens_of}
use Rattle.function_fits.proofs.declarations.items_fit.Given as goal

-- the values from there on fit
abbrev pub invariant-loop-item : goal.invariant-loop-item
invariant-loop-item l =
    items_fit (source_of l.laid) (layout_of l.laid) l.at (givens_of l.laid (drop l.item-index l.items))
    ≡ items_fit (source_of l.fn.laid) (layout_of l.fn.laid) l.fn.at (givens_of l.fn.laid l.fn.items)
