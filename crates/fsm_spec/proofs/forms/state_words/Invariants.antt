-- The state words so far have their form, and the words that are left follow them.
use Rattle.std.proofs.Common.{length}
use Rattle.fsm_spec.proofs.FormProofs.{ReadsStates}
use Rattle.fsm_spec.proofs.forms.state_words.Given as goal

abbrev pub invariant-loop-word : goal.invariant-loop-word
invariant-loop-word l = ReadsStates l.initial.words l.words l.states

abbrev pub decreases-loop-word : goal.decreases-loop-word
decreases-loop-word l = length l.words
