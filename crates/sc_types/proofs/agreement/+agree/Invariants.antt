use Rattle.std.proofs.Common.{◌≡◌, map, drop}
use Rattle.sc_typed.specs.Types.{each_fits, agreement}
use Rattle.sc_types.proofs.agreement.+agree.Given as goal

abbrev pub invariant-agree_each-loop-i : goal.invariant-agree_each-loop-i
invariant-agree_each-loop-i l = each_fits (λ p t. p.agrees t) (map agreement (drop l.i l.a)) (drop l.i l.b) ≡ each_fits (λ p t. p.agrees t) (map agreement l.a) l.b
