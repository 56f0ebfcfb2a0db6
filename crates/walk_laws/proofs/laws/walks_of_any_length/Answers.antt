use Rattle.walk_laws.proofs.Walking.{sound, complete}
use Rattle.walk_laws.proofs.laws.walks_of_any_length.Goals as goal

pub returns-clause-sound : goal.returns-clause-sound
returns-clause-sound c = sound

pub returns-clause-complete : goal.returns-clause-complete
returns-clause-complete c = complete
