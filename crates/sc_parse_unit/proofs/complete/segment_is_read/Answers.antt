use Rattle.sc_parse_unit.proofs.Fitting.{one_segment}
use Rattle.sc_parse_unit.proofs.complete.segment_is_read.Goals as goal

pub returns : goal.returns
returns c = one_segment
