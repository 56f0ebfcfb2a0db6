use Rattle.std.proofs.Common.{◌≡◌, drop}
use Rattle.sc_declare.specs.Functions as spec
use Rattle.sc_declare.proofs.functions.typedef_parameters.Given as goal

abbrev pub invariant-loop-t : goal.invariant-loop-t
invariant-loop-t l = spec.typedef_parameters l.at (drop l.t-index l.types) l.walk ≡ spec.typedef_parameters l.at l.types l.initial.walk
