use Rattle.std.proofs.Common.{take}
use Rattle.gl_store.proofs.CopyLemmas.{Copied}
use Rattle.gl_store.proofs.making.copied_locations.Given as goal

-- the first locations are there once more
abbrev pub invariant-loop-location : goal.invariant-loop-location
invariant-loop-location l = Copied (take l.location-index l.old) l.locations.items
