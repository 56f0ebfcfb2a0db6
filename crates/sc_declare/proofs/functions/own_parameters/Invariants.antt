use Rattle.std.proofs.Common.{◌≡◌, drop}
use Rattle.sc_declare.specs.Functions as spec
use Rattle.sc_declare.proofs.functions.own_parameters.Given as goal

abbrev pub invariant-loop-param : goal.invariant-loop-param
invariant-loop-param l = spec.own_parameters (drop l.param-index l.params) l.walk ≡ spec.own_parameters l.params l.initial.walk
