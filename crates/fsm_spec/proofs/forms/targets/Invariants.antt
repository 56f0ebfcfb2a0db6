-- What all words give is the targets so far, and then what the words that are left give.
use Rattle.std.proofs.Common.{◌≡◌, ◌++◌, drop}
use Rattle.std.specs.Prelude.{option_map}
use Rattle.fsm_spec.specs.Forms.{targets_in}
use Rattle.fsm_spec.proofs.forms.targets.Given as goal

abbrev pub invariant-loop-state : goal.invariant-loop-state
invariant-loop-state l = targets_in l.states l.states l.initial.words ≡ option_map (λ ts. l.targets ++ ts) (targets_in l.states (drop l.state-index l.states) l.words)
