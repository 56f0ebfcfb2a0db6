use Rattle.std.proofs.Common.{◌≡◌, map, drop}
use Rattle.std.specs.List.{list_all}
use Rattle.sc_typed.specs.Types.{keeps_itself, agreement}
use Rattle.sc_types.proofs.agreement.all_keep.Given as goal

abbrev pub invariant-loop-t : goal.invariant-loop-t
invariant-loop-t l =
    (list_all keeps_itself (drop l.t-index l.t-items) ≡ list_all keeps_itself l.t-items)
    × (list_all (λ p. p.keeps) (map agreement (drop l.t-index l.t-items)) ≡ list_all (λ p. p.keeps) (map agreement l.t-items))
