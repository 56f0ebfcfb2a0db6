-- The definitions compute.
use Rattle.std.proofs.Common.{refl}
use Rattle.fsm_spec.specs.Words.{is_word, is_word_byte}
use Rattle.fsm_spec.specs.Forms.{name_in, are_states, states_in, is_function, returns_in, goal_in, target_in, head_in, operation_in}
use Rattle.fsm_spec.specs.Reading.{are_operations, spelled}
use Rattle.fsm_spec.specs.Lock.{locks}
use Rattle.fsm_spec.proofs.laws.lock_file.Goals as goal

pub returns : goal.returns
unfolding is_word is_word_byte name_in are_states states_in is_function returns_in goal_in target_in head_in operation_in are_operations spelled locks
returns c = refl
