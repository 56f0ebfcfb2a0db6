-- No callee so far has a lower component.
use Rattle.std.proofs.Common.{◌≡◌, ℕ, leb, true, take}
use Rattle.std.specs.List.{list_all}
use Rattle.call_graph.specs.Evidence.{component}
use Rattle.call_graph.proofs.evidence.leads_up.Given as goal

abbrev pub invariant-loop-callee : goal.invariant-loop-callee
invariant-loop-callee l =
    list_all (λ (g : ℕ). leb (component l.evidence l.function) (component l.evidence g)) (take l.callee-index l.row) ≡ true
