use Rattle.sc_parse_expr.proofs.SoundReading.{sound}
use Rattle.sc_parse_expr.proofs.sound.reading_is_spelled.Goals as goal

pub returns : goal.returns
returns c = sound
