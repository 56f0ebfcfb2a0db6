-- The types so far, with those of the parameters that are left, are the types of all.
use Rattle.std.proofs.Common.{◌≡◌, drop}
use Rattle.sc_parts.specs.Declarators.{types_of}
use Rattle.sc_parts.proofs.Types.{joined}
use Rattle.sc_parts.proofs.declarators.types_of.Given as goal

abbrev pub invariant-loop-p : goal.invariant-loop-p
invariant-loop-p l = joined l.types (types_of (drop l.p-index l.params)) ≡ types_of l.params
