-- The bytes so far are others.
use Rattle.std.proofs.Common.{◌≡◌, true, take, eqb}
use Rattle.std.specs.Prelude.{not}
use Rattle.std.specs.List.{list_all}
use Rattle.fsm_spec.proofs.words.cut.Given as goal

abbrev pub invariant-loop-i : goal.invariant-loop-i
invariant-loop-i l = list_all (λ b. not (eqb b l.at)) (take l.i l.bytes) ≡ true
