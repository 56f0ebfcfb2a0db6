-- What is loaded stays, and so do the words.
use Rattle.std.proofs.Common.{sym, ◌∙◌}
use Rattle.gate_questions.proofs.questions.what_may_be_asked_stays.Goals as goal

pub returns : goal.returns
returns c old new q grown ready = record {
  loaded = λ usable. c.what_is_loaded_stays.ensures.grown _ _ _ _ _ grown (ready.loaded usable);
  inputs = ready.inputs ∙ sym grown.inputs;
  lanes = c.lanes_stay.ensures _ _ _ _ grown ready.lanes;
}
