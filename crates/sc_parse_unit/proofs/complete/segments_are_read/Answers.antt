use Rattle.sc_parse_unit.proofs.Fitting.{all_segments}
use Rattle.sc_parse_unit.proofs.complete.segments_are_read.Goals as goal

pub returns : goal.returns
returns c = all_segments
