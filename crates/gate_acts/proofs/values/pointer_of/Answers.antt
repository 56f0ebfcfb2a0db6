use Rattle.gate_acts.proofs.Valuing.{pointer_set, pointer_word, pointer_empty}
use Rattle.gate_acts.proofs.values.pointer_of.Goals as goal

pub returns-in_ok-same-in-Set : goal.returns-in_ok-same-in-Set
returns-in_ok-same-in-Set c = pointer_set _ _ _ _ c.in-Set.is c.in_ok-same-in-Set.ensures c.requires

pub returns-in-Word : goal.returns-in-Word
returns-in-Word c = pointer_word _ _ _ _ c.in-Word.is c.one.ensures.good c.one.ensures.points

pub returns-in-Unit : goal.returns-in-Unit
returns-in-Unit c = pointer_empty _ _ _ c.in-Unit.is c.one-in-Unit.ensures.good c.one-in-Unit.ensures.points
