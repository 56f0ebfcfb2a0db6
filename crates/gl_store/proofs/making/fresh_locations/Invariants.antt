use Rattle.std.proofs.Common.{take}
use Rattle.gl_store.specs.Steps.{IsFresh}
use Rattle.gl_store.proofs.making.fresh_locations.Given as goal

-- the first locations are made
abbrev pub invariant-loop-width : goal.invariant-loop-width
invariant-loop-width l = IsFresh l.fn.net (take l.width-index l.fn.widths) l.locations.items
